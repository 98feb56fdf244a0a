pub mod Ends
pub mod Rolls
