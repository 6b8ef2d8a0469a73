pub mod WorkedCases
pub mod RefusedWritesNothing
pub mod FirstPassing
pub mod VerdictRule
pub mod Hiding
