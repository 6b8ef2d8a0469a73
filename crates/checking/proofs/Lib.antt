pub mod Allowed
pub mod Guard
pub mod Encoded
pub mod Recovery
pub mod Comparison
