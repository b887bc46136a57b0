mod Common
pub mod Public
mod Handled
mod Counting
mod Noting
pub mod Deciding
pub mod Settling
mod Telling
mod Running
mod Owning
mod KeptEnd
