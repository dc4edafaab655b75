pub mod Crossing
pub mod Sides
pub mod Told
pub mod Whole
