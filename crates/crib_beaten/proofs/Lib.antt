pub mod BeatingDeals
pub mod JoinedDemands
pub mod DemandsByTurns
pub mod DemandsAfterOpening
pub mod UnbeatenPlans
mod BeatenExamples
pub mod HoldNumbers
pub mod Choices
pub mod TallyRows
pub mod TallyLaws
pub mod RowFigures
mod Examples
pub mod TermExamples
