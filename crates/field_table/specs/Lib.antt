pub mod Modular
pub mod ModularFacts
pub mod ModularLaws
pub mod Table
pub mod Orders
pub mod TableLaws
