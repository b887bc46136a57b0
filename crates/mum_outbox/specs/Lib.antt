pub mod Rule
pub mod Facts
pub mod Calls
