pub mod Bytes
pub mod Signed
pub mod Challenge
pub mod Encoding
