pub mod Extensions
pub mod Places
pub mod Answers
