pub mod ArrowLaws
pub mod MiddleLaws
pub mod ClosedLaws
pub mod StartLaws
pub mod LiveLaws
pub mod PutLaws
pub mod StartCoboundaryLaws
pub mod StoredStart
