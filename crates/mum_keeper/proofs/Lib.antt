mod Common
pub mod Public
pub mod Changing
pub mod Comparing
pub mod Keptness
pub mod Merging
pub mod Observing
pub mod Ordering
pub mod Seeing
pub mod Turning
pub mod Walking
