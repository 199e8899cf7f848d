mod Prefixes
mod Adding
pub mod Accounts
pub mod Histories
mod Keeping
