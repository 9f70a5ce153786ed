pub mod Drawn
pub mod Dealt
pub mod StormValid
