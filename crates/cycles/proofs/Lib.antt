pub mod NodeTest
pub mod UnitsHeld
pub mod UnitsFree
pub mod CycleByNode
