pub mod Apart
pub mod WorkerSteps
pub mod ControlSteps
pub mod OwnerSteps
pub mod OwnerTurns
pub mod PortSteps
pub mod WorkerRuns
