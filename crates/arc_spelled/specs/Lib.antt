pub mod Work
pub mod Came
pub mod Shown
pub mod Releases
pub mod Counts
pub mod StepperStands
pub mod Spelled
pub mod Puts
