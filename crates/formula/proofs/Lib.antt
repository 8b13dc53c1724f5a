pub mod Sets
pub mod Spelled
pub mod Spelling
pub mod Unions
pub mod Waiting
