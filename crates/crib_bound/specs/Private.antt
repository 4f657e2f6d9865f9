-- Definitions that only private functions cite. No public contract rests on them.
pub mod Cases
pub mod Walks
pub mod HoldOutcomes
