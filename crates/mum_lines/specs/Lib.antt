pub mod Lines
pub mod Seeking
pub mod Lending
