pub mod Nets
pub mod RoundInequalities
pub mod Executions
