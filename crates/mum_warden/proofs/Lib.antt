pub mod Answers
pub mod StandardFacts
