pub mod Text
pub mod Report
pub mod ReportBlocks
pub mod Promises
pub mod inside
