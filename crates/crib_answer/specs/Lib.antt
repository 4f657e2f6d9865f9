pub mod Job
pub mod Input
pub mod Answer
pub mod Told
pub mod Meaning
pub mod Reported
pub mod Laws
pub mod Private
