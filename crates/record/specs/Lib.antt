pub mod Rules
pub mod Check
pub mod Layout
pub mod Refusals
pub mod Promises
pub mod inside
