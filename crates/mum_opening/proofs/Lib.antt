pub mod Public
pub mod Described
pub mod Limited
