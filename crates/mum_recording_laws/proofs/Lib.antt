mod Common
pub mod Options
pub mod Deciding
pub mod Sitting
pub mod Following
pub mod Routing
pub mod Closing
pub mod Suiting
pub mod Moving
pub mod Asking
pub mod Seated
pub mod Resting
pub mod Joining
pub mod Done
pub mod Commanding
pub mod Departing
pub mod Voicing
pub mod Queuing
pub mod Playing
pub mod Knowing
pub mod Noting
pub mod Leaving
pub mod Pasts
pub mod Holding
pub mod Timing
mod Standing
pub mod Placing
mod Ordered
mod Existing
mod Recording
