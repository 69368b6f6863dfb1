-- Lemmas that proofs of other crates, or of this one, cite.
pub mod Appending
pub mod Fronts
