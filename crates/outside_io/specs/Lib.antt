pub mod Causes
pub mod Standard
pub mod Memory
pub mod Sinks
