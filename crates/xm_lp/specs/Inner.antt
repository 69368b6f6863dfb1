-- What private clauses cite, and no public one.
pub mod Table
pub mod Part
pub mod Minus
pub mod Listing
pub mod Refuted
pub mod Multiple
pub mod Denominator
