pub mod AgreesOnce
pub mod AppendsOnce
pub mod Orderly
pub mod Fronts
