mod Common
pub mod Public
pub mod Acting
pub mod Walks
pub mod Texts
pub mod Same
pub mod Clean
pub mod Totals
pub mod Pairs
pub mod Legality
pub mod Law
pub mod Auditable
mod StandardFacts
pub mod Numbering
