pub mod Sums
pub mod Products
pub mod Division
