pub mod CoboundaryLaws
pub mod StalklessLaws
pub mod PathLaws
pub mod DimensionLaws
