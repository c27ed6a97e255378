mod Words
mod Columns
mod Steps
mod Rounds
mod Expansion
pub mod Values
