pub mod RecordSteps
mod Boms
mod RecordReads
mod ScenarioRecords
mod PostOrder
mod GeneratedParts
mod GeneratedSteps
pub mod OneOutcome
pub mod KnownParts
