mod Common
pub mod Public
pub mod Padded
pub mod Staying
pub mod Others
pub mod Answered
pub mod Kept
pub mod StandardFacts
