mod Common
pub mod Public
mod Rows
mod Telling
mod Opening
mod Desks
mod Counting
mod Deciding
mod Lagging
mod Steps
mod Once
mod Putting
mod Handing
mod Giving
mod Framing
mod Sent
mod Answering
mod Warding
mod Booking
mod Noting
mod Ending
mod Sitting
pub mod Rolling
mod Causing
