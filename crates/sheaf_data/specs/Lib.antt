pub mod Sheaves
pub mod Drafts
pub mod Betti
pub mod Arrows
pub mod Refusals
pub mod Changes
