-- What the builder's own contracts cite.
pub mod Inner
