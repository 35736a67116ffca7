pub mod Complexes
pub mod Invariants
pub mod Verdicts
pub mod Builds
pub mod Neighbours
pub mod Common
pub mod Fields
