mod Common
pub mod Public
pub mod CountLemmas
pub mod MemLinkLemmas
pub mod MemoryLemmas
pub mod OutsideLemmas
pub mod StandardFacts
pub mod WholeLemmas
