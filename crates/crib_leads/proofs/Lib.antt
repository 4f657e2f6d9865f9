pub mod EndedTurns
pub mod EndingLeads
pub mod Entries
pub mod MovedPlans
pub mod SureLeads
mod Examples
mod OrderExamples
