pub mod Passing
pub mod PassingLaws
pub mod Shown
pub mod Halves
