pub mod Inner
pub mod Lemmas
pub mod Planned
pub mod Schedule
pub mod Shown
