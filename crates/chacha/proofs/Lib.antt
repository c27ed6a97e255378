pub mod Sums
pub mod Serial
pub mod Derived
