pub mod Alone
pub mod Life
