pub mod Cipher
pub mod Columns
pub mod Examples
pub mod Key
pub mod KeyBytes
pub mod Laws
