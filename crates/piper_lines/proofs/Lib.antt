mod Worked
pub mod Collecting
pub mod Framing
pub mod Growing
pub mod LineEnds
pub mod Moving
pub mod Sending
pub mod Staying
