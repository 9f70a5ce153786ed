pub mod Cells
pub mod Events
pub mod Threads
