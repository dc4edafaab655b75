pub mod LastMark
pub mod Rounds
pub mod Sleepers
pub mod OneRun
