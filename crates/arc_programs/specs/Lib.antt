pub mod Programs
pub mod ProgramsHistories
pub mod ProgramsLaws
pub mod ProgramsLines
pub mod ProgramsTied
pub mod Variables
