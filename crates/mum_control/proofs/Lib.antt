mod Common
pub mod Public
pub mod Copied
pub mod Listing
pub mod Addressed
pub mod Boxes
pub mod Appending
pub mod Reporting
pub mod Settling
pub mod Keeping
