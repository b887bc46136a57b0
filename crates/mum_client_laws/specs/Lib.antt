pub mod Known
pub mod Heard
pub mod Brought
pub mod Sessions
pub mod SentTexts
pub mod Recipients
