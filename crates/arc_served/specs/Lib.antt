pub mod Served
pub mod Kept
pub mod Programs
