mod Common
pub mod Public
pub mod Accepted
pub mod Access
pub mod Decided
pub mod Firsts
pub mod Complete
pub mod InTurn
pub mod Listened
pub mod LoggedIn
