pub mod Outcomes
pub mod ResultRecord
pub mod ResultCounts
pub mod WindowTable
