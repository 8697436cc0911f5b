pub mod RegisterSources
pub mod ReadyTimes
pub mod BlockInstructions
pub mod StageNumbers
