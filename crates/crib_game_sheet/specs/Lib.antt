pub mod ActsBefore
pub mod GameLaws
pub mod GamePlay
pub mod GameShow
pub mod GameShowLaws
pub mod GameText
pub mod Heading
pub mod Private
