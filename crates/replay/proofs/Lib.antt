pub mod Steps
pub mod Log
