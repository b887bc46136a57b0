mod Common
pub mod Public
pub mod Accepted
pub mod ByCause
pub mod Cleared
pub mod Complete
pub mod Firsts
pub mod Found
pub mod Heard
pub mod Linked
pub mod Named
pub mod OneByOne
pub mod Parted
