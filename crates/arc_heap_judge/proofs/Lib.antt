pub mod Finding
pub mod Judges
pub mod Told
pub mod Verdicts
