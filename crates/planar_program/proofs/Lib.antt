pub mod Steps
pub mod Places
pub mod Looser
pub mod OneValue
pub mod Existence
pub mod Certificates
