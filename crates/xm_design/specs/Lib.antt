pub mod ColouredRuns
pub mod Designed
pub mod Lemmas
pub mod Numbers
pub mod Oracles
pub mod Tasks
