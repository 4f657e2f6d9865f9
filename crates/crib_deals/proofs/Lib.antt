pub mod ExactCounts
pub mod NumberedDeals
pub mod ThrowLists
pub mod ThrowCounts
pub mod OpenDeals
pub mod ListedHolds
pub mod HoldMultiples
pub mod WeighedSums
pub mod TableRows
mod Examples
