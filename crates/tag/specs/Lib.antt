pub mod Utf8
pub mod Grammar
pub mod Tag
pub mod Due
