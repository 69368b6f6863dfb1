-- What private clauses cite, and no public one.
pub mod Checks
pub mod Kept
pub mod Made
pub mod Operations
