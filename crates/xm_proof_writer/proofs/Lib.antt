pub mod Columns
pub mod Names
pub mod Numbers
pub mod Ordered
pub mod Rows
pub mod Standing
pub mod Steps
pub mod Whole
