pub mod Context
pub mod Hearing
pub mod Cover
pub mod Route
pub mod Hearers
pub mod Aims
pub mod Laws
