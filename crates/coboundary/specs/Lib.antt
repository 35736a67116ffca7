pub mod Closed
pub mod Start
pub mod Put
pub mod StartCoboundary
