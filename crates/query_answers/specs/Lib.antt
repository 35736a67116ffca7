pub mod Degrees
pub mod SlotReductions
pub mod Answers
pub mod Endings
pub mod Vectors
