mod Writing
pub mod Counting
mod Naming
mod Bounds
mod BlockLines
mod CoordinateLaws
mod ZeroLaws
