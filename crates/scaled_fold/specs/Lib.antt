pub mod inner
pub mod Doubling
pub mod Ends
