pub mod RowNumbers
pub mod PairRows
pub mod RowSteps
