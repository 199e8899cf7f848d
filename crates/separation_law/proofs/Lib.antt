pub mod Ways
pub mod FarPairs
pub mod Borders
pub mod Shares
pub mod Pairs
pub mod WallWays
pub mod Walls
