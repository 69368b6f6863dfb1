pub mod Inner
pub mod Passes
pub mod Rule
pub mod Tries
pub mod Views
