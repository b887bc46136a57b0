pub mod Heard
pub mod Machine
pub mod Action
pub mod Verdict
pub mod Reply
pub mod Laws
