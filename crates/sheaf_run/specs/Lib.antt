pub mod Words
pub mod Answers
pub mod Parts
pub mod Views
pub mod Runs
pub mod Replies
pub mod Sessions
pub mod ExitNumbers
