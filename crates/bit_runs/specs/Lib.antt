pub mod ByteBits
pub mod Rows
