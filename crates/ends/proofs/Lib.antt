pub mod Marking
pub mod Judging
pub mod Sameness
pub mod Senders
pub mod Receivers
pub mod Promises
pub mod Resuming
