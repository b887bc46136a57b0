pub mod Values
pub mod Entries
pub mod Opened
pub mod Passwords
