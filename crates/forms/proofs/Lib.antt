mod Lawful
mod Halting
mod Digits
mod Hexes
mod Numbers
mod Words
mod Rests
mod Turns
mod Reading
mod Written
pub mod Spelled
