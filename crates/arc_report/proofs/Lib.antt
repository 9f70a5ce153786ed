pub mod Sorting
pub mod LeakOrder
pub mod Numbers
pub mod AllThere
pub mod Counted
