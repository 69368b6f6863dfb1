-- What private clauses cite, and no public one.
pub mod CheckSteps
pub mod Making
pub mod Placed
