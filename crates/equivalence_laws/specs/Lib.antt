pub mod Equivalences
pub mod RemovalMaps
pub mod Composites
pub mod Updates
pub mod Bases
pub mod Laws
pub mod Transposes
pub mod CellMaps
