pub mod Refusals
pub mod Sending
pub mod Window
pub mod Receiving
pub mod Runs
pub mod Promise
