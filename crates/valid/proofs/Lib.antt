pub mod Chains
pub mod Elements
pub mod QueueStands
pub mod FigureStands
pub mod PlaceStands
pub mod Good
