pub mod EchoingAll
mod LinesOut
mod Talking
mod WritingBack
