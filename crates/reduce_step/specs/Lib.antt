pub mod Parts
pub mod Footprints
pub mod Records
pub mod Finishes
pub mod Differences
pub mod Steps
pub mod Logs
pub mod Laws
