pub mod Pairs
pub mod Up
pub mod Scaled
pub mod Given
pub mod Growth
pub mod Listed
