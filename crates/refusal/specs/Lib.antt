pub mod Numbers
pub mod Signing
pub mod Verdict
pub mod Answer
pub mod Meaning
