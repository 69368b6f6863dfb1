-- Lemmas that proofs cite, those of crates above among them.
pub mod Standing
