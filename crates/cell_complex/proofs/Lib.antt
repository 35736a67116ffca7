pub mod Numbers
pub mod Entries
pub mod Faults
pub mod Counts
pub mod Callers
pub mod Places
