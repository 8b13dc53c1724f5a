pub mod Chain
pub mod Laws
