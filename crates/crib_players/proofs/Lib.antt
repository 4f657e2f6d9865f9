pub mod Turns
pub mod Refuted
pub mod Followers
pub mod Longer
pub mod LastTurns
pub mod SurePlayers
pub mod SureTurns
pub mod Judged
pub mod Missed
mod PlayerExamples
mod TurnExamples
mod Examples
