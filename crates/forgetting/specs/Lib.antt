pub mod Liveness
pub mod Filling
pub mod Forgetful
pub mod SameMeaning
pub mod Marks
pub mod inner
