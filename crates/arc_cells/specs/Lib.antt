pub mod Begins
pub mod Cascades
pub mod Chains
pub mod Drops
pub mod Ends
pub mod Swaps
