pub mod Inputs
pub mod GameInputs
pub mod CutShortInputs
pub mod InputReaders
pub mod EmptyExamples
mod InputExamples
