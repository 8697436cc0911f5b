pub mod PlayFacts
pub mod NodeTurn
