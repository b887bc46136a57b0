pub mod Subtree
pub mod Name
pub mod Member
pub mod Walk
pub mod Limits
pub mod Laws
