pub mod Statuses
pub mod Outputs
pub mod Printed
pub mod Judged
