mod Common
pub mod Courses
pub mod Documents
pub mod Rounds
pub mod Asking
pub mod Takings
pub mod Turns
pub mod Alike
