pub mod FiveStarts
pub mod BlockTimes
