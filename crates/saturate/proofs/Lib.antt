pub mod ScratchParts
pub mod RoundSteps
pub mod RoundEnds
pub mod Saturating
