pub mod Index
pub mod Judging
pub mod Stands
