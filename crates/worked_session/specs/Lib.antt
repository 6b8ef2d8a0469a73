pub mod WorkedSession
pub mod KeyLife
pub mod Rules
