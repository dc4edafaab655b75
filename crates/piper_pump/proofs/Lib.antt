pub mod Elements
pub mod Passed
pub mod Taking
