mod Common
pub mod Public
pub mod Returned
pub mod Delivering
pub mod Completed
pub mod Copies
pub mod Others
pub mod Sound
pub mod Entries
