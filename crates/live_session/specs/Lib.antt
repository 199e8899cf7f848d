pub mod LiveText
pub mod Running
pub mod Steering
pub mod Session
