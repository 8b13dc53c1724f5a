pub mod Lassos
pub mod Places
pub mod Repeats
pub mod Rows
pub mod Trails
