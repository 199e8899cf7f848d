pub mod Counts
pub mod Names
pub mod Rule
pub mod Steps
pub mod Views
