mod Common
pub mod Public
pub mod Headers
pub mod Replies
pub mod Streams
pub mod CallsOver
pub mod OneFrame
pub mod StandardFacts
