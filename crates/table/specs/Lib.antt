pub mod Spent
pub mod Figures
pub mod Blocks
pub mod Search
pub mod Values
pub mod Promises
pub mod Full
