mod Common
pub mod Walked
pub mod Cuts
pub mod Given
pub mod OneCut
pub mod Stops
pub mod Aiming
pub mod Contexts
pub mod FirstWay
pub mod Reasons
pub mod Routed
pub mod Holding
pub mod Ranks
pub mod StandardFacts
