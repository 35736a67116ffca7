pub mod GradedBlocks
pub mod Between
pub mod Rows
pub mod LogMaps
pub mod Stored
pub mod Composition
pub mod CochainLists
