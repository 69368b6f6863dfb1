-- Lemmas that proofs of this crate and of the crates above cite.
pub mod Listing
pub mod OneFlow
pub mod Within
