pub mod Chance
pub mod LimitChance
