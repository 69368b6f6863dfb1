-- What private clauses cite, and no public one.
pub mod Building
pub mod Reaching
pub mod Testing
