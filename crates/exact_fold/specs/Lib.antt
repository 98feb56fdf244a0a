pub mod Exact
pub mod InTheLimit
pub mod Limits
pub mod Loops
pub mod Strings
pub mod Refused
pub mod inner
