pub mod Lines
pub mod Printing
pub mod Runs
mod Examples
pub mod Delivery
mod BesideExamples
mod PrintsExamples
