mod Common
pub mod Public
pub mod Bits
pub mod Cuts
pub mod Folds
pub mod Lists
pub mod Reading
pub mod Sizes
pub mod Soundness
pub mod StandardFacts
