pub mod Histories
pub mod Laws
pub mod Left
pub mod Named
pub mod Promises
pub mod Replaying
pub mod Stages
