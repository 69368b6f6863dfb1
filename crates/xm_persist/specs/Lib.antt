pub mod Inner
pub mod Rights
