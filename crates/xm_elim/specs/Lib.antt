pub mod Basis
pub mod Determined
pub mod Elimination
pub mod Inner
pub mod Ordered
