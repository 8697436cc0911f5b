pub mod ReadyByStage
pub mod Sources
pub mod StageNumbers
pub mod UnpackedBlock
