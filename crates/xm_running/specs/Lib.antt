pub mod Inner
pub mod Passing
