pub mod Fault
pub mod Reading
pub mod Value
pub mod Object
pub mod Policy
pub mod Given
