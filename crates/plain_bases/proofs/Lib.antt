pub mod RelationLaws
pub mod ComplementLaws
pub mod BasisLaws
pub mod PartLaws
pub mod VecLaws
pub mod MemoryLaws
pub mod ComplexLaws
