-- Definitions that only private functions cite. No public contract rests on them.
pub mod Reading
pub mod Refusals
pub mod Spelling
pub mod OpeningTables
pub mod Ahead
