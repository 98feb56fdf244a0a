mod LongDivision
mod Rounded
pub mod Digits
pub mod RowByRow
