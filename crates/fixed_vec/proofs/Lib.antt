pub mod DrawingIn
pub mod PlaneLaws
pub mod Sizes
pub mod Newton
pub mod NearestWhole
mod Examples
pub mod Squares
pub mod Lengths
pub mod RoundedOnce
