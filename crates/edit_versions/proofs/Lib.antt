pub mod Replacing
pub mod Ends
pub mod Putting
pub mod Fitting
pub mod Unique
pub mod Edited
