mod Common
pub mod Verdicts
pub mod Packets
pub mod Seats
pub mod Lasting
pub mod Asked
pub mod Closing
pub mod Runs
pub mod Served
pub mod OneServer
