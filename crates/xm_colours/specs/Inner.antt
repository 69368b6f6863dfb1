-- What private clauses cite, and no public one.
pub mod Refusing
pub mod Spreading
pub mod Words
