-- Definitions that only private functions cite. No public contract rests on them.
pub mod Device
pub mod Reading
pub mod Transfer
pub mod Writing
