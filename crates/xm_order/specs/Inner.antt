-- What private clauses cite, and no public one.
pub mod Listed
pub mod Path
pub mod Walk
