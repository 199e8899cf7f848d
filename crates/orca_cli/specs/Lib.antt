pub mod Accepted
pub mod Output
pub mod Behind
pub mod Status
pub mod Working
pub mod Promise
