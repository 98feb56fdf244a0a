-- Programs as plain data, and what they do on bits.
pub mod Syntax
pub mod Arms
pub mod Views
pub mod Value
pub mod Reading
pub mod Draw
pub mod Parts
pub mod Blocks
pub mod Outcomes
pub mod Order
pub mod LimitRange
pub mod Runs
pub mod Bounds
pub mod Divisor
pub mod Lowest
pub mod Checked
pub mod Fitting
