pub mod Stretches
pub mod Sides
