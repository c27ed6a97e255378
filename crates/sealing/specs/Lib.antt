pub mod Meaning
pub mod Piles
pub mod Sealing
pub mod Refusals
pub mod Calls
pub mod Exactly
