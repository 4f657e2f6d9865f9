pub mod Amounts
pub mod Bounds
pub mod GradeCounts
pub mod Plans
pub mod AgreeingDeals
pub mod Keepers
pub mod Letters
pub mod Taken
pub mod PutParts
pub mod WalkSteps
pub mod Worths
pub mod OpenDeals
pub mod DealerPegs
pub mod HoldUnits
pub mod Swaps
pub mod RenamedDeals
pub mod LowestDeals
pub mod Recast
pub mod RecastPlayers
pub mod AllPlayers
mod CaseExamples
mod EndExamples
mod Examples
mod WorthExamples
