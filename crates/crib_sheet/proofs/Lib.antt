mod BeatenExamples
mod DoubledExamples
mod HolesExamples
mod LeadsExamples
mod MeaningExamples
mod NextTextExamples
mod OtherMeaningExamples
mod PlanBeatenExamples
mod PlanHeadExamples
mod ReasonExamples
mod RefuteExamples
mod ScoresExamples
mod SheetExamples
mod TallyExamples
mod TryExamples
pub mod AskedInputs
pub mod SuitsTexts
pub mod GameSections
pub mod HeadColumns
pub mod HolesLines
pub mod LeadsLines
pub mod LeadsMade
pub mod MadeSheets
pub mod OneSheet
pub mod PlanBeatenLines
pub mod RowColumns
pub mod ScoreLines
pub mod SheetMeanings
