pub mod Keyed
pub mod MergeLaws
pub mod LineLaws
