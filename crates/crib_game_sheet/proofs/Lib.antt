pub mod ActsBeforeExamples
mod GameShowExamples
mod GameTextExamples
mod GameWordExamples
mod HeadingExamples
pub mod ChosenCombinations
pub mod CombinationPoints
pub mod CountedCards
pub mod DifferentCombinations
pub mod GameLawProofs
pub mod GamePlayExamples
pub mod GamesOfSheets
pub mod PeggedPoints
pub mod PlayWalks
pub mod ReasonPoints
pub mod ReasonsAdded
