pub mod Records
pub mod Each
pub mod Finds
pub mod Least
pub mod Bridge
