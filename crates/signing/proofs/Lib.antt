pub mod Allowed
pub mod Entry
pub mod Masks
pub mod AcceptedSigning
pub mod OfferedMasks
pub mod Offers
