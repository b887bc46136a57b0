pub mod Causes
pub mod Laws
pub mod Befallen
pub mod Lives
pub mod Closings
pub mod Parcels
pub mod Partings
pub mod Voices
