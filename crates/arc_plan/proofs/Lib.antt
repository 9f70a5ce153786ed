pub mod Bits
pub mod Searching
pub mod Taken
