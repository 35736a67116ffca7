pub mod StoredBlocks
pub mod Grids
pub mod Invariants
pub mod Fresh
pub mod Lists
pub mod Candidates
pub mod Cochains
pub mod Flags
