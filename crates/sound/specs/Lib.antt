pub mod Meaning
pub mod Checks
