pub mod Channels
pub mod Codes
pub mod Name
pub mod Octets
pub mod Perm
pub mod Refusal
pub mod Text
