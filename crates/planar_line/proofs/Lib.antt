pub mod Sizes
pub mod Toward
pub mod Border
pub mod Reliefs
pub mod Stretch
pub mod Ranges
pub mod Admitted
