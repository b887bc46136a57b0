mod Common
pub mod Public
pub mod OneWord
pub mod Answered
pub mod Asked
pub mod Told
pub mod Reported
pub mod TooLong
pub mod Underway
pub mod Gathering
pub mod SameReading
pub mod Audits
pub mod Passes
pub mod Openings
mod ServeWords
mod KeeperEnds
mod ServerStatuses
mod StandardFacts
