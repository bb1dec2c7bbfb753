pub mod Blocking
pub mod Limits
pub mod SeenFields
pub mod Fields
pub mod Faults
pub mod Things
pub mod Horizons
