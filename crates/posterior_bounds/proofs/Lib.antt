pub mod RisingRows
pub mod Chosen
pub mod BoundsOfMasses
