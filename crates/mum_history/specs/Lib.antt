pub mod History
pub mod Kept
pub mod View
pub mod Twin
