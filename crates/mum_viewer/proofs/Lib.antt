mod Common
pub mod Answered
pub mod Causing
pub mod Copies
pub mod Counting
pub mod Few
pub mod Idle
pub mod Lists
pub mod Looking
pub mod NoFloats
pub mod Rests
pub mod Rows
pub mod Shown
pub mod StandardFacts
pub mod Steps
pub mod Turning
