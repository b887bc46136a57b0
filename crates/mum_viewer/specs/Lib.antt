pub mod Picture
pub mod Text
pub mod View
pub mod Look
pub mod Views
pub mod Viewer
pub mod Laws
pub mod Turns
