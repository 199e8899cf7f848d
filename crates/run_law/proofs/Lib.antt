pub mod Sound
mod Sizes
mod Mirrored
mod Advised
mod Standing
mod OffWalls
mod PairSteps
pub mod Runs
mod SomeRelief
mod SomeMark
mod SoftNormals
mod SomeAdvice
pub mod SomeNext
pub mod OneValue
pub mod PresentNext
