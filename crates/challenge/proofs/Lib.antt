pub mod Joined
pub mod Digests
pub mod CommitmentBytes
pub mod Kept
pub mod Challenge
pub mod WholeCommitment
