pub mod Words
pub mod Search
pub mod Lowest
pub mod Changes
