pub mod Status
pub mod Text
pub mod Reply
pub mod Run
pub mod Beside
pub mod Pieces
pub mod Prints
