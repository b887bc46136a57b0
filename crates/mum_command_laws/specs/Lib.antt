pub mod Arrivals
pub mod ChannelCommands
pub mod Connections
pub mod Logins
pub mod Reports
pub mod SentTexts
pub mod UserCommands
