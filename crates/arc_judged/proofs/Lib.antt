pub mod Slots
pub mod Hands
pub mod Stamps
pub mod Events
pub mod Lines
pub mod Reports
pub mod Legal
