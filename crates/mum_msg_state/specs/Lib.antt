pub mod Messages
pub mod Parts
