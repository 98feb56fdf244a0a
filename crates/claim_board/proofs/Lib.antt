pub mod FairDeal
pub mod Keeps
pub mod Passes
