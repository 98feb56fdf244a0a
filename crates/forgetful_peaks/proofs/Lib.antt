pub mod Tests
pub mod Cleared
pub mod Along
pub mod Fewer
pub mod Flows
pub mod Forgets
pub mod Blocks
