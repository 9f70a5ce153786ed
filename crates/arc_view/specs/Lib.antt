pub mod Views
pub mod Holding
pub mod Rule
pub mod Kinds
pub mod Admission
pub mod Steps
pub mod Passes
pub mod Calls
