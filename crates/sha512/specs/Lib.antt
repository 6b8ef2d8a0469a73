pub mod Bytes
pub mod Padding
pub mod Compression
pub mod Digest
pub mod Word
pub mod Constants
pub mod Roots
