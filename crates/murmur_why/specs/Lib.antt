pub mod Hearers
pub mod Names
pub mod Reasons
pub mod States
pub mod Words
