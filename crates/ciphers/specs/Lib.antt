pub mod Admitted
pub mod Ddd
pub mod Refusals
pub mod Piles
pub mod Construction
