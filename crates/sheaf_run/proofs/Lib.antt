mod AnswerLaws
mod DegreeLaws
pub mod DueLaws
pub mod Lines
pub mod RunLaws
pub mod ServingLaws
pub mod PromiseLaws
