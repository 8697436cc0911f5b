pub mod TimesFilled
pub mod StageTimes
pub mod TimesTurn
pub mod RowsAfterRound
pub mod RoundLoop
