pub mod Splits
pub mod Finishes
pub mod Laws
pub mod Entries
pub mod Beginnings
