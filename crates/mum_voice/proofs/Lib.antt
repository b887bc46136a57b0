mod Common
pub mod Public
pub mod Rows
pub mod Spelling
pub mod Shortest
pub mod AudioLength
pub mod Parsing
pub mod Clear
pub mod StandardFacts
