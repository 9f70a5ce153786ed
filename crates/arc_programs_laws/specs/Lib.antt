pub mod Deinits
pub mod Claims
pub mod Room
pub mod Names
pub mod Phases
