pub mod Automata
pub mod Either
pub mod Errors
pub mod Loads
pub mod Models
pub mod Rules
pub mod Spans
pub mod Tables
