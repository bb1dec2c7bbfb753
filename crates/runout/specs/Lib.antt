pub mod Faults
pub mod Speeds
pub mod Brake
pub mod Formulas
pub mod RunOuts
pub mod WorkedSums
