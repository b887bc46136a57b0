pub mod Facts
pub mod Picking
pub mod Offering
pub mod Drafts
pub mod Routing
pub mod Laws
