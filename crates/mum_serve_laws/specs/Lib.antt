pub mod Counted
pub mod Decisions
pub mod Runs
