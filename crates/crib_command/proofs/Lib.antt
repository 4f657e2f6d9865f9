pub mod ClapApp
mod WordExamples
pub mod ValueLemmas
pub mod WordLemmas
pub mod CommandLemmas
pub mod NamedCommands
pub mod OptionLemmas
