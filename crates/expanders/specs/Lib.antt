pub mod Asked
pub mod Domains
pub mod Refusals
pub mod Sequences
pub mod Counters
pub mod Pieces
