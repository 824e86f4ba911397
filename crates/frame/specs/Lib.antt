pub mod Frame
pub mod Meant
pub mod Rest
