pub mod Questions
pub mod Answers
pub mod Words
pub mod Reading
pub mod Judging
pub mod Filling
pub mod Reports
