pub mod Tests
pub mod InOrder
pub mod Lists
pub mod Ascending
pub mod Parts
pub mod Stores
