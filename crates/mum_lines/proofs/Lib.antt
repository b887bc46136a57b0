mod Common
pub mod Public
pub mod LineFeeds
pub mod Windows
pub mod Readers
