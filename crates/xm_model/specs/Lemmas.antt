-- Lemmas that proofs of the crates above cite.
pub mod ChannelEnds
pub mod Local
pub mod OneTarget
pub mod PortCounts
pub mod PrimitiveFits
