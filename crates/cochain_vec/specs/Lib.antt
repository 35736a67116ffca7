pub mod Complexes
pub mod Shapes
pub mod Cohomology
pub mod CochainComplexes
pub mod Stalkless
pub mod Dimensions
