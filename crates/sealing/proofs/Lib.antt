pub mod Areas
pub mod Examined
pub mod Opening
pub mod Sealings
