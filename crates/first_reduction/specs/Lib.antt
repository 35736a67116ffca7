pub mod FirstPairs
pub mod Advances
