-- The steps, each in a file of its own: what forbids it, what it does, and the lines that it reports.
pub mod Open
pub mod Frame
pub mod Edit
pub mod Publish
pub mod Tell
pub mod Look
pub mod Offer
pub mod Post
pub mod Drain
pub mod Collect
pub mod Close
pub mod End
