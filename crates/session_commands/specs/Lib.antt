pub mod Room
pub mod View
pub mod Outcome
pub mod Table
