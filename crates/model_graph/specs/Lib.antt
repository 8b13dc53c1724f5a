pub mod ModelGraph
pub mod Laws
