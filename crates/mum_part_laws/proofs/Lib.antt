mod Common
pub mod Public
pub mod Chains
pub mod TreeLaws
mod RosterLaws
mod GroupLaws
mod NameLaws
mod SubLaws
pub mod ChangeLaws
mod TextLaws
