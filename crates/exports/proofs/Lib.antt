pub mod DoorVerdicts
pub mod OperationDoors
pub mod Outcomes
