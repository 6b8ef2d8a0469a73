pub mod Evaluate
pub mod EvaluateAll
pub mod Draw
pub mod Keys
