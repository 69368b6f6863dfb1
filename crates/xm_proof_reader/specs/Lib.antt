pub mod Gives
pub mod Inner
pub mod Known
pub mod Lemmas
pub mod Numbers
pub mod Reading
pub mod Tables
pub mod Views
