pub mod Bits
pub mod Records
pub mod Counted
pub mod Theorems
pub mod Full
pub mod Bridge
pub mod Heads
