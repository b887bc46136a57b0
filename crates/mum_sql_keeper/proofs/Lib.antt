pub mod Public
pub mod Crossing
