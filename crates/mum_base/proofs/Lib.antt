pub mod Public
pub mod Hex
pub mod StandardFacts
