-- What the tests' own contracts cite.
pub mod Inner
