pub mod GoalCount
pub mod Listed
pub mod Lived
pub mod Rows
pub mod Standing
pub mod Taken
pub mod Texts
pub mod Written
