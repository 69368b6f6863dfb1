pub mod AtOnce
pub mod Counting
pub mod Cycles
pub mod Labelling
pub mod RoundAdded
pub mod Running
pub mod Still
