pub mod Recorded
pub mod Order
pub mod Orderly
pub mod OfRuns
