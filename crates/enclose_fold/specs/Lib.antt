pub mod inner
pub mod Refused
