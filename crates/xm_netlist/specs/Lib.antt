pub mod Checks
pub mod Doc
pub mod Documented
pub mod Inner
pub mod Lemmas
pub mod Numbered
pub mod Reading
pub mod Valid
