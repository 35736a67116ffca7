mod Firsts
pub mod Faces
pub mod Faults
mod Least
mod Passing
