pub mod Cascades
pub mod Drops
pub mod Ends
