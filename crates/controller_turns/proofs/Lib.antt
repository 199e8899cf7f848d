pub mod FrameTurns
pub mod Posters
pub mod Rounds
mod Lengths
