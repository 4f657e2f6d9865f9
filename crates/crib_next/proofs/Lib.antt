pub mod TurnsForm
pub mod NextInputs
pub mod TurnRefusals
pub mod WalkedTurns
pub mod NextLaws
mod NextExamples
