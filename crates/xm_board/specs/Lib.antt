pub mod Answers
pub mod Core
pub mod Inner
pub mod Run
pub mod Schedule
