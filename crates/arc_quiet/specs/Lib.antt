pub mod OneWay
pub mod Quiet
pub mod Finished
pub mod Whole
pub mod Premises
