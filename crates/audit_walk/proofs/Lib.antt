pub mod Merging
pub mod Rests
pub mod Weights
pub mod Counted
pub mod Spare
pub mod Exact
pub mod Decided
pub mod Masses
