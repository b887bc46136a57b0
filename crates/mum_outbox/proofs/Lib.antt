mod Common
pub mod Public
pub mod Hands
pub mod Numbers
pub mod Offers
pub mod Takes
pub mod Forks
pub mod Giving
pub mod Moments
