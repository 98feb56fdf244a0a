pub mod Refused
pub mod OneReading
pub mod inner
