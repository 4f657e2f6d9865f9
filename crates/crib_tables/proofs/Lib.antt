pub mod OneTable
pub mod ScoreTables
pub mod SureHoles
pub mod SureTurns
mod HolesExamples
mod TableExamples
