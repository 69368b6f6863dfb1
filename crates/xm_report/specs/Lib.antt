pub mod Check
pub mod Demo
pub mod Invariants
pub mod Lines
pub mod Search
pub mod Snap
pub mod Verdict
