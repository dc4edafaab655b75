pub mod Carrying
mod Front
mod Copied
pub mod Ended
pub mod Traits
pub mod Clients
mod LookingOut
mod LookingIn
mod OfStd
mod Rounds
mod RoundsIn
mod RoundsOut
mod Wrote
mod StaysNotified
pub mod Calling
mod Pending
mod RoomOrNone
mod StaysRegistered
mod AtOnce
mod AsTraits
