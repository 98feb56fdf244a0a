pub mod Insertion
pub mod Weights
pub mod FromEach
pub mod Parted
