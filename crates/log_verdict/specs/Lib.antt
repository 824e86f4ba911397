pub mod Kinds
pub mod Checking
pub mod Accepted
pub mod Wrong
pub mod OwnLog
pub mod InPieces
pub mod Cases
pub mod Promises
