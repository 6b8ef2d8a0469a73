pub mod Front
pub mod Masks
pub mod Residues
pub mod KeyLoaded
pub mod Checked
pub mod Signed
pub mod Clauses
