-- What private clauses cite, and no public one.
pub mod Flat
pub mod Forms
pub mod Leaps
pub mod Views
