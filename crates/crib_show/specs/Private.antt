-- Definitions that only private functions cite. No public contract rests on them.
pub mod Counts
pub mod Extremes
pub mod Listing
pub mod Indices
pub mod Totals
