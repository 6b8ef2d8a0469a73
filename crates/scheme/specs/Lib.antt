pub mod Scheme
pub mod Hiding
pub mod FirstPassing
pub mod Verdict
