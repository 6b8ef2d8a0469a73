pub mod Polynomial
pub mod FirstOutside
pub mod Sparse
pub mod Rotation
pub mod Evaluation
pub mod Asks
