pub mod Alike
pub mod DueText
pub mod Checked
pub mod Log
