-- The laws of the step.
pub mod ByDecision
pub mod CodeIsStep
pub mod Dispatched
pub mod FirstThatHolds
pub mod InWords
pub mod StepIsPlan
pub mod OthersStay
pub mod OfRecord
pub mod Executable
