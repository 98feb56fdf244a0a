pub mod Rows
pub mod StringSums
pub mod AllStrings
pub mod Undecided
pub mod Fronts
