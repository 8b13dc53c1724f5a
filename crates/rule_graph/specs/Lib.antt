pub mod Admission
pub mod Alternating
pub mod Plans
pub mod RuleGraph
pub mod Laws
pub mod Sets
pub mod Pairs
pub mod Words
