mod WhyExamples
pub mod WhyLines
pub mod WhyRowsOfGames
