pub mod Squares
pub mod TouchedFaces
pub mod Answers
pub mod Searches
pub mod Touches
