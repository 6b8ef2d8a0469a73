pub mod WorkedSession
pub mod KeyLife
pub mod Rules
pub mod AcceptedSigning
pub mod Draws
pub mod Calls
pub mod RuleCalls
pub mod Steps
