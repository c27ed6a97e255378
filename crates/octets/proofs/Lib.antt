pub mod Bytes
pub mod Xor
pub mod Slices
pub mod Numbers
pub mod Same
pub mod Arrays
