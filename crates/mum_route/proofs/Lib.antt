mod Common
pub mod Public
pub mod Among
pub mod Known
pub mod Present
pub mod Precedence
pub mod Filled
pub mod Aimed
pub mod Gathered
pub mod Hearers
pub mod Slots
pub mod Told
pub mod Inputs
pub mod Spoken
pub mod Relations
pub mod StandardFacts
pub mod Seated
pub mod Positioned
