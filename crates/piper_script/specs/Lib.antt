pub mod Ended
pub mod Played
pub mod Refused
pub mod Steps
pub mod Whole
