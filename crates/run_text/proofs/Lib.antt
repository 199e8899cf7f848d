pub mod PostFits
