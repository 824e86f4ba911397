pub mod Steps
pub mod Tested
