pub mod Calls
pub mod Courses
pub mod Longer
pub mod Runs
pub mod Steps
pub mod Turns
