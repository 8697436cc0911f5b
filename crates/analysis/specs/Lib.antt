pub mod Result
pub mod Promises
pub mod inside
