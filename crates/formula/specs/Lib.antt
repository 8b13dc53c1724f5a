pub mod Formulas
pub mod Machine
pub mod Sets
pub mod Shape
pub mod Stack
pub mod Tokens
pub mod Unions
