pub mod Lists
pub mod Sums
pub mod Bytes
pub mod inside
