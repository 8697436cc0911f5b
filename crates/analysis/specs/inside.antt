pub mod OutputSteps
