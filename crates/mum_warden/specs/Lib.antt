pub mod Answer
pub mod Warden
