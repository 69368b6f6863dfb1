-- Lemmas that proofs of other crates, or of this one, cite.
pub mod Lists
pub mod StepFacts
pub mod Walk
