pub mod PosteriorBounds
pub mod Holding
pub mod Rows
