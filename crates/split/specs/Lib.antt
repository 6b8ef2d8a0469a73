pub mod Fold
pub mod Levels
pub mod Products
pub mod Sparse
pub mod Values
pub mod StagedOnce
