pub mod Words
pub mod RoundByRound
