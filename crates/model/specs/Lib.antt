pub mod Nodes
pub mod Paths
pub mod Cycles
pub mod Rounds
pub mod Blocks
pub mod Worked
pub mod inside
