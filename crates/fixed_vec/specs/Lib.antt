pub mod Held
pub mod Vector
pub mod HalfPlane
pub mod Point
pub mod Meeting
