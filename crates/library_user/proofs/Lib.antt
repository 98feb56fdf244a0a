mod LowBits
mod Chances
pub mod Rows
