-- Two logs as one run.
pub mod Line
pub mod Moved
pub mod OneList
pub mod Calling
pub mod Reading
pub mod Writing
pub mod Reports
pub mod OneRun
pub mod Wide
pub mod Follows
pub mod Worked
pub mod Listed
pub mod OfHandles
