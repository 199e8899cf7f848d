pub mod Turns
pub mod Controllers
