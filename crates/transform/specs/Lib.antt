pub mod UpFrom
pub mod AllExponents
pub mod Prime
pub mod Generator
pub mod Convolution
pub mod Reordering
pub mod Asks
