pub mod Texts
pub mod After
pub mod Rows
pub mod Tables
pub mod Counting
pub mod Whole
