pub mod Beaten
pub mod Tally
pub mod Terms
pub mod Laws
pub mod Private
