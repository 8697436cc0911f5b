pub mod RegisterChains
