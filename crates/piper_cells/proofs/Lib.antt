pub mod CellCrosses
pub mod CellSteps
pub mod Signs
pub mod Fields
pub mod SpaceKit
pub mod SpaceSteps
