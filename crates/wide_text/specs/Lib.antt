pub mod Numerals
pub mod WideLines
