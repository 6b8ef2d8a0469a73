pub mod Check
pub mod Asks
