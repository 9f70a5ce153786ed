pub mod Made
pub mod Plans
pub mod Operations
pub mod Threads
pub mod Orders
pub mod Law
pub mod Worked
