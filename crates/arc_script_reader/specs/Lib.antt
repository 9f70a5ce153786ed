pub mod NameSets
pub mod Ahead
pub mod Fields
pub mod Fronts
pub mod Heads
