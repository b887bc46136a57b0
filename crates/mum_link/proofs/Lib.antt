mod Common
pub mod Coming
pub mod Dealing
pub mod Faulting
pub mod Reading
pub mod ReadingOn
