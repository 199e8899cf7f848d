mod FieldLimits
mod FaultCauses
mod StrayAgent
mod MovedAgents
mod HandedAgain
mod StepMade
mod Parts
