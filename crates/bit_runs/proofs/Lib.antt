mod GivenBytes
mod Alike
pub mod OneByOne
