pub mod Lengths
pub mod Sizes
pub mod Parts
pub mod Regions
pub mod Sized
pub mod EnoughRelief
pub mod Legs
pub mod RelativePlanes
pub mod Shares
mod Examples
