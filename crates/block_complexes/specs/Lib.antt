pub mod BlockComplexes
pub mod Cochains
pub mod Differentials
pub mod Laws
