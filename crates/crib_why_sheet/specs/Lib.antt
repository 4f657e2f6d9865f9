pub mod Private
pub mod WhyPlay
pub mod WhyRowLaws
pub mod WhyRows
pub mod WhyText
