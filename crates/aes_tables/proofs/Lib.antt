pub mod Bounds
mod Inverses
