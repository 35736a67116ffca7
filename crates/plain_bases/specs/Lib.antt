pub mod Relations
pub mod Complements
pub mod Columns
pub mod View
pub mod Parts
