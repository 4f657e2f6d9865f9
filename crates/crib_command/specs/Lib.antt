pub mod Status
pub mod Command
pub mod Private
