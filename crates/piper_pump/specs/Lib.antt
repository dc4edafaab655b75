pub mod Ended
pub mod Passed
