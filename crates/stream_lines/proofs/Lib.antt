pub mod Fronts
pub mod Batches
pub mod Taken
pub mod Behind
