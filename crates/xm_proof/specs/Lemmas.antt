-- Lemmas that proofs cite.
pub mod Integers
pub mod QueuePairs
pub mod Refuting
pub mod Weighing
