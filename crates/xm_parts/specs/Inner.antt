-- What private clauses cite, and no public one.
pub mod Built
pub mod Copied
pub mod Going
pub mod Grouped
pub mod Showing
