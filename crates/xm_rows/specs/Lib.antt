pub mod Columns
pub mod Combination
pub mod Divisor
pub mod Inner
pub mod Lemmas
pub mod Points
pub mod Row
