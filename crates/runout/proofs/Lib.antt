pub mod Laws
pub mod BrakeLaws
pub mod RunOutLaws
mod Summing
mod Ramps
mod Courses
mod Closed
mod Composed
pub mod WorkedSums
