-- Definitions that only private functions cite. No public contract rests on them.
pub mod Nodes
pub mod States
pub mod Numbers
pub mod Search
