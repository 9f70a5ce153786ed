pub mod Causes
pub mod InMemory
pub mod Moved
pub mod Standard
