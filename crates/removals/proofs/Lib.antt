pub mod CornerLaws
pub mod SameRemovals
pub mod RemovalLaws
pub mod ReductionLaws
