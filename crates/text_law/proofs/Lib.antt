mod Numerals
mod Rows
mod Lines
mod Values
mod RowsAdded
mod Prefixes
mod Accepted
mod FrameLines
mod FramesAdded
mod TranscriptRead
mod OnlyMemory
pub mod TranscriptText
pub mod Comparisons
mod RunFrames
mod RunText
