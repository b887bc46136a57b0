mod Common
pub mod Public
pub mod Bounds
pub mod Departed
pub mod Families
pub mod Fewer
pub mod OneFrame
pub mod Pieces
pub mod Placed
pub mod Reached
pub mod ByParent
pub mod Sent
pub mod Slots
pub mod Standing
pub mod Told
pub mod Unwatched
pub mod Within
