pub mod History
pub mod Taken
pub mod Log
pub mod Applied
pub mod Rule
pub mod Names
