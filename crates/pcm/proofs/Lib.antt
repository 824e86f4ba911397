pub mod Machine
pub mod Walks
pub mod Ready
pub mod Promises
