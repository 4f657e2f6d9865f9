pub mod Sure
pub mod Shows
pub mod HistoryPlaces
pub mod Positions
pub mod SuitOrder
pub mod Private
