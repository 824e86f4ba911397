pub mod AsEffect
