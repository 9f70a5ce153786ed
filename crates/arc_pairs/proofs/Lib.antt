pub mod Readied
pub mod Swapping
