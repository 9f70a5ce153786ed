pub mod Counting
pub mod Freeing
pub mod Fresh
