mod LineLemmas
mod PlaceLemmas
mod MessageLemmas
pub mod MessageExamples
mod RefusedExamples
mod PlaceExamples
