pub mod Chunks
pub mod LittleEndian
pub mod Pieces
pub mod WordSums
pub mod Firsts
pub mod Departing
pub mod Frames
pub mod Files
pub mod Records
mod Fitting
pub mod ReadingBack
pub mod WritingBack
pub mod Exact
