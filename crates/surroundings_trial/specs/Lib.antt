pub mod Chargers
pub mod Barriers
