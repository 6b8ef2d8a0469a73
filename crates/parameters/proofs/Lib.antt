pub mod Sound
pub mod Tables
