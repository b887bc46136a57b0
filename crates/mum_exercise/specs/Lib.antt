pub mod Draws
pub mod Acts
pub mod Exercise
