pub mod Turns
pub mod Scores
pub mod Holes
pub mod Private
