pub mod Frame
pub mod First
pub mod Fault
pub mod Kept
pub mod Stream
pub mod Calls
