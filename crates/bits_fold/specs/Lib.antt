pub mod Counted
pub mod Expected
pub mod Refused
pub mod inner
