pub mod OneAnswer
pub mod Lent
pub mod Told
pub mod Slots
