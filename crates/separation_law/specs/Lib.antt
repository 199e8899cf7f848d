pub mod Respecting
