pub mod Facts
pub mod Kept
pub mod Commanded
pub mod Posting
