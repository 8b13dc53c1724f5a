pub mod Answers
pub mod Concludes
