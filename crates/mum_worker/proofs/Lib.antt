mod CommonNames
pub mod Public
pub mod Journals
pub mod Learning
pub mod Lists
pub mod Openings
pub mod Outs
pub mod Queues
pub mod PassesKept
pub mod Stood
