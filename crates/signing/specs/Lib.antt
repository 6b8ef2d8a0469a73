pub mod Signer
pub mod Found
pub mod Sign
pub mod Asks
