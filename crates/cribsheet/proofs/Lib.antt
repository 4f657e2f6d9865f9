pub mod JobWords
pub mod Runs
mod BesideExamples
mod WordExamples
