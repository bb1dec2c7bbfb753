pub mod Bytes
pub mod Faults
pub mod Kinds
pub mod Blocks
pub mod Floors
pub mod Exactness
