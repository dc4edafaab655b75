pub mod Pieces
pub mod Fronts
