-- What strings of bits weigh, and which fraction a program gives an outcome.
pub mod StringWeight
pub mod OneDraw
pub mod Fractions
pub mod WeightedEnds
pub mod Mass
pub mod LongestReading
