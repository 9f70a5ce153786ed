pub mod References
pub mod Drives
pub mod Laws
