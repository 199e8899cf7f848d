pub mod Relief
pub mod Border
pub mod Span
pub mod Line
pub mod Point64
pub mod Probe
