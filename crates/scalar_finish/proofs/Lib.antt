pub mod NumberLaws
pub mod EndLaws
pub mod SumLaws
pub mod SplitLaws
pub mod DimensionLaws
pub mod PutLaws
pub mod PairLaws
