pub mod Fitted
pub mod Shared
pub mod Turns
