pub mod Client
pub mod Crosswise
pub mod EchoAll
pub mod Echoes
pub mod Failures
