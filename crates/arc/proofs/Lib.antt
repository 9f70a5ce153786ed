pub mod Reported
pub mod Printed
pub mod Judged
pub mod Unserved
