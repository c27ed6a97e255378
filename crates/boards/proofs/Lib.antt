pub mod Dispatch
mod Received
