pub mod Numbers
pub mod Lifecycle
pub mod Control
pub mod Lists
pub mod Cases
pub mod Promises
