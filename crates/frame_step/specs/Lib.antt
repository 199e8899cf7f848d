pub mod Moved
pub mod Present
pub mod Workers
