pub mod Messages
pub mod Parts
pub mod Ban
pub mod Limits
pub mod Cut
pub mod Book
pub mod Answer
pub mod Verdict
