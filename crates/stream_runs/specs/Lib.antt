pub mod Ranges
pub mod Blocks
pub mod Keys
pub mod Homes
pub mod Jobs
pub mod Ends
pub mod Draws
