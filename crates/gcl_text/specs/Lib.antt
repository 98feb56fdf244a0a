pub mod Readings
pub mod inner
