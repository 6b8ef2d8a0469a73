pub mod Chain
pub mod Answering
pub mod Apart
pub mod SetRefusal
