-- What the tests cite.
pub mod Dots
