pub mod Infix
pub mod Members
pub mod Parts
