pub mod BeatenPlayers
pub mod Worth
pub mod Laws
pub mod Private
