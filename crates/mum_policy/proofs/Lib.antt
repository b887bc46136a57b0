mod Common
pub mod Public
pub mod Reading
pub mod Members
pub mod Paths
pub mod Walks
pub mod Parts
pub mod Bits
pub mod Decisions
pub mod Ways
pub mod Sets
pub mod Held
pub mod Digits
pub mod Scenes
pub mod StandardFacts
