pub mod Faults
pub mod Refused
pub mod Runs
