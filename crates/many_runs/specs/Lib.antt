pub mod InARow
pub mod RowWeights
pub mod Streams
pub mod StringSums
pub mod Fronts
pub mod AllStrings
