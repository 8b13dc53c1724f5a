pub mod Denoteds
pub mod Indexed
pub mod Modelled
pub mod Satisfied
pub mod Stored
