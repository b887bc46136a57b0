pub mod Public
pub mod Fronts
