mod Adding
pub mod AtPlaces
mod Balance
mod Closed
pub mod ColumnsOf
mod Digits
mod Division
pub mod Eliminated
pub mod Eliminating
mod Ends
pub mod Entries
pub mod Forming
pub mod Forms
pub mod FoundVisits
mod Fractions
mod Inverses
mod Leading
pub mod Losing
mod Members
pub mod Newton
mod Numbers
mod OnlyVisits
pub mod Places
pub mod Renewals
pub mod Rows
pub mod Taken
pub mod Visited
mod Visits
mod Walks
