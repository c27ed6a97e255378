pub mod Done
pub mod Told
pub mod Lines
pub mod Plain
pub mod Sending
pub mod Receiving
