pub mod Cursors
pub mod Pasted
pub mod Standing
pub mod Successors
pub mod Valid
pub mod Writes
pub mod Written
