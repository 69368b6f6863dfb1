pub mod Counts
pub mod Inner
pub mod Passes
pub mod Rounds
pub mod Simulating
pub mod Snapshots
pub mod Taking
