pub mod Removals
pub mod Reductions
pub mod Laws
