mod Common
pub mod Taken
pub mod Parts
pub mod Reading
pub mod Asking
pub mod Again
