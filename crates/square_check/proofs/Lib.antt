pub mod Combined
pub mod Placed
pub mod Clearing
pub mod Commuting
pub mod Visited
pub mod Elsewhere
