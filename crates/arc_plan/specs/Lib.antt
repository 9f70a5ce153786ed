pub mod Attempts
pub mod Strong
pub mod Unowned
pub mod Searches
pub mod Slots
