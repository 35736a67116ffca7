pub mod Inverses
pub mod Known
pub mod Remainders
pub mod RowSums
