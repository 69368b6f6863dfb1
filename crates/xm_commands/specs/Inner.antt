-- What private clauses cite, and no public one.
pub mod Plain
pub mod CallEnded
pub mod Counting
pub mod Invariants
pub mod Proving
pub mod Prepared
pub mod RunSoFar
pub mod Simulating
pub mod Verifying
pub mod WhyEnded
