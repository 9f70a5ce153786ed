pub mod Applied
pub mod Asked
pub mod Moving
