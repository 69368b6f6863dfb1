-- What private clauses cite, and no public one.
pub mod Labels
pub mod Pieces
pub mod Table
