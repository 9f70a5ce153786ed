pub mod Extents
pub mod Bits
pub mod Places
pub mod Isa
pub mod Steps
pub mod Plans
pub mod Attempts
pub mod Shown
