pub mod Copies
pub mod Drains
pub mod Edits
pub mod Exercises
pub mod Offers
pub mod Packets
pub mod Recordings
