pub mod Amounts
pub mod Body
pub mod Rows
pub mod Rounds
pub mod Refused
pub mod Weighed
pub mod Metering
pub mod inner
