pub mod Known
pub mod Served
pub mod Reported
