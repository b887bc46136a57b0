pub mod Following
pub mod Journals
pub mod OneServer
