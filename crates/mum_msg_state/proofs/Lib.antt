mod Common
pub mod StandardFacts
