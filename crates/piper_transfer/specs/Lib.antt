pub mod Taken
pub mod Transfer
