pub mod Filling
pub mod Chain
pub mod DigestBytes
pub mod Roots
pub mod Steps
pub mod Choice
