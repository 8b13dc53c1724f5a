pub mod Pursued
