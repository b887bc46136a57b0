mod Common
pub mod Public
pub mod Tables
pub mod Echoes
pub mod Strangers
pub mod Lists
pub mod Frames
pub mod Replies
pub mod Denials
pub mod Entering
pub mod Channels
pub mod Framed
