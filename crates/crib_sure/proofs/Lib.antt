pub mod PlaceByHistory
pub mod PositionHistories
pub mod FirstOfRank
pub mod AgreeingInSuitOrder
pub mod RecordsFromOpening
pub mod ShowsBehind
pub mod PointsOfDeals
pub mod EndedDeals
pub mod ExampleOpening
mod PositionExamples
