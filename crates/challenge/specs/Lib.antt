pub mod Asks
pub mod Pool
pub mod Rules
pub mod Draw
