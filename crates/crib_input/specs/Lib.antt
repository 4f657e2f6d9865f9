pub mod Refusals
pub mod Input
pub mod Memory
pub mod Spelled
