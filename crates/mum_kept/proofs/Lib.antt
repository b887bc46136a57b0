mod Common
pub mod Public
pub mod ByParents
pub mod Degrees
pub mod Goodness
pub mod Lasting
pub mod Numbered
pub mod Seats
pub mod Payloads
pub mod Pushed
mod StandardFacts
pub mod Standing
pub mod Unused
pub mod Whole
