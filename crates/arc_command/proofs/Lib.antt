pub mod LongNumbers
pub mod Asked
