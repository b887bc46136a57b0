pub mod Firsts
pub mod Trees
pub mod Rosters
pub mod Groups
pub mod Names
pub mod Texts
