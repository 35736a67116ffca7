pub mod Edits
pub mod Works
pub mod Verdicts
pub mod ListVerdicts
pub mod Faults
