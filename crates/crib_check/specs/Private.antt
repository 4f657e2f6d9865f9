-- Definitions that only private functions cite. No public contract rests on them.
pub mod Found
pub mod Numbers
pub mod Positions
pub mod Trails
pub mod Walks
