pub mod Price
pub mod Draws
pub mod Reading
pub mod Rounds
pub mod RunPrice
pub mod InTheLimit
pub mod Forever
