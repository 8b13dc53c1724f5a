pub mod Pursuits
