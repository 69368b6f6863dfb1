-- What private clauses cite, and no public one.
pub mod Over
pub mod Stepped
