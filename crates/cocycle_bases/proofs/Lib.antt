pub mod OpenLaws
pub mod GradedLaws
pub mod ClassLaws
