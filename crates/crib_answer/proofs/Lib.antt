pub mod Lines
pub mod RightReplies
pub mod Replies
pub mod AnswerMeanings
pub mod CutShortInputs
mod Examples
mod ReplyExamples
pub mod JudgedInputs
pub mod Agreement
mod InputExamples
mod MeaningExamples
mod StatusExamples
