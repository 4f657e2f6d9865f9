pub mod Exact
pub mod Choices
pub mod Deals
pub mod Throws
pub mod Tables
pub mod Private
