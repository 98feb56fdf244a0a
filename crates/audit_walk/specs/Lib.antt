pub mod Rows
pub mod Audited
pub mod Laws
pub mod inner
