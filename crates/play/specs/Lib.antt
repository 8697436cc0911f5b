pub mod Refusals
pub mod Promises
pub mod inside
