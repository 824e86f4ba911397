pub mod Fed
pub mod Promises
