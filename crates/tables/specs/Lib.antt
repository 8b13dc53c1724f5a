pub mod Halts
pub mod Search
pub mod Tables
