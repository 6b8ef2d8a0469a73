pub mod Limits
pub mod Sets
pub mod Sound
pub mod Ring
