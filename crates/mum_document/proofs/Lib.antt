mod Common
pub mod Public
pub mod First
pub mod Values
pub mod Objects
pub mod Sets
pub mod Elements
pub mod Lists
pub mod Whoms
