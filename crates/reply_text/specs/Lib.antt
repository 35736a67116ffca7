pub mod Lines
pub mod JoinedMatrices
pub mod Reductions
pub mod Replies
pub mod Transcripts
pub mod Parts
pub mod ClientEvents
pub mod Counts
