-- What private clauses cite, and no public one.
pub mod Ringed
pub mod Slots
