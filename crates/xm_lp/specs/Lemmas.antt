-- Lemmas that proofs cite.
pub mod Tally
