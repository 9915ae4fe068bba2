pub mod RegionLaws
pub mod RuleOrder
pub mod WriterSets
pub mod ActivePositions
pub mod HeadRuns
