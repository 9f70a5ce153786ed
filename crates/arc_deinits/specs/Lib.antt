pub mod Found
pub mod References
pub mod Stands
