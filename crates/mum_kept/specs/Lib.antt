pub mod Policy
pub mod Rows
pub mod Kept
pub mod Standing
pub mod Good
pub mod Prefix
pub mod Rebuild
