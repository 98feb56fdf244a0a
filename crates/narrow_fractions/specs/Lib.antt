pub mod Remainders
pub mod Euclid
pub mod Moduli
pub mod Elimination
pub mod Refusal
pub mod Rows
pub mod WorkedLoop
