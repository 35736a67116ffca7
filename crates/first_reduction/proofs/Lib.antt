mod WorkLaws
pub mod FirstLaws
mod AdvanceLaws
