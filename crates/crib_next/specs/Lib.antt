pub mod Section
pub mod Next
pub mod Input
pub mod Laws
pub mod Private
