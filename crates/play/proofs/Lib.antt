pub mod UnfitStates
pub mod LatencyList
pub mod Outcomes
pub mod LengthAndState
