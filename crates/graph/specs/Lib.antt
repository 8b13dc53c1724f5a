pub mod Adding
pub mod Candidates
pub mod Lists
pub mod Meaning
pub mod Sets
pub mod Walks
