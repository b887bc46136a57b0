mod Common
pub mod ApartParts
pub mod ControlParts
pub mod KickParts
pub mod OwnerParts
pub mod OwnerTurning
pub mod PortParts
pub mod WorkerParts
pub mod WorkerRunning
pub mod WorkerTurns
