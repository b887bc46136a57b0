mod Common
pub mod Arriving
pub mod Counting
pub mod Headers
pub mod Kept
pub mod OnePiece
pub mod Reach
pub mod Runs
pub mod Sayings
pub mod StandardFacts
pub mod Together
pub mod Uses
