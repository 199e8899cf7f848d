pub mod Arrays
pub mod Faults
pub mod Steps
pub mod Laws
pub mod Ready
