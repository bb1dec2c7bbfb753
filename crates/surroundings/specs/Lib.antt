pub mod Asking
pub mod Rosters
