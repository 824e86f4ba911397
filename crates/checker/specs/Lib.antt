pub mod Meant
pub mod Took
pub mod Promises
