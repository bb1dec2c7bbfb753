pub mod Faults
pub mod Checks
pub mod Gates
pub mod World
pub mod WorkedTicks
