-- Definitions that only private functions cite. No public contract rests on them.
pub mod Demands
pub mod Figures
pub mod Rows
