pub mod LatencyFault
pub mod StartTest
