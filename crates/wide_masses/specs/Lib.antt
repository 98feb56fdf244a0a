pub mod Masses
