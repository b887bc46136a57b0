pub mod Cut
pub mod Passed
pub mod CutLaws
pub mod Reason
pub mod Aims
pub mod ReasonLaws
