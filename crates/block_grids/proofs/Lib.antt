pub mod SingleLaws
pub mod WalkLaws
pub mod JoinLaws
pub mod OtherLaws
