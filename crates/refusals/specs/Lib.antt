pub mod Table
pub mod Spelling
