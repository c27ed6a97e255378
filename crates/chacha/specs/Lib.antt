pub mod Words
pub mod ChaCha20
pub mod Examples
pub mod Laws
