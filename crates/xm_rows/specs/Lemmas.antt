-- Lemmas that proofs of this crate and of the crates above cite.
pub mod Entries
pub mod Factors
pub mod Integers
pub mod Meeting
pub mod Noting
pub mod Sums
pub mod Unique
