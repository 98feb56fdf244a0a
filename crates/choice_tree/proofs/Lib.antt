pub mod ViewLemmas
pub mod Meanings
pub mod Rows
pub mod WellFormedTrees
pub mod Places
