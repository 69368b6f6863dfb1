-- What private clauses cite, and no public one.
pub mod Cells
pub mod Kinds
pub mod Planning
