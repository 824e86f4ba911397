pub mod ClearMark
