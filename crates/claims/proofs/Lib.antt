mod Edges
pub mod BlockLaws
pub mod SoundLaws
