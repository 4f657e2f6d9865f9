-- Definitions that only private functions cite. No public contract rests on them.
pub mod Ahead
pub mod Choice
pub mod Knowledge
