pub mod Replied
pub mod Queueing
