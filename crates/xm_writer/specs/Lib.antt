pub mod Inner
pub mod Lemmas
pub mod Texts
pub mod Writing
