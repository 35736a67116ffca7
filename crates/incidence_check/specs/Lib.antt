pub mod Incidences
pub mod Answers
pub mod Reach
pub mod Passes
pub mod Marks
