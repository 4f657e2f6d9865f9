-- Definitions that only private functions cite. No public contract rests on them.
pub mod Judging
pub mod Reading
pub mod Tracing
pub mod Walking
