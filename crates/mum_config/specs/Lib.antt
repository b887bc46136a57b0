pub mod Account
pub mod Channel
pub mod Link
pub mod Document
pub mod Limits
pub mod Refusal
