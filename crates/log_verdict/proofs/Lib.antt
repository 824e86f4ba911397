pub mod Computed
pub mod LineKinds
pub mod Texts
pub mod Right
pub mod First
pub mod InPieces
pub mod Own
