mod Common
pub mod Public
pub mod Pairs
pub mod Seats
pub mod Counts
pub mod Documents
pub mod Said
pub mod Bare
pub mod FitAccounts
pub mod FitPolicies
pub mod MetChannels
pub mod FitChannels
pub mod FitLinks
pub mod FitDocument
pub mod FitSettings
pub mod FewWorkers
