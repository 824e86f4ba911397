pub mod Hex
pub mod Line
pub mod Split
pub mod Log
pub mod Reading
pub mod Promises
pub mod WorkedExample
pub mod Edges
