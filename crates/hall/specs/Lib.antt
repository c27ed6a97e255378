pub mod Held
pub mod Keys
pub mod Replies
pub mod Steps
pub mod Opening
pub mod Sessions
