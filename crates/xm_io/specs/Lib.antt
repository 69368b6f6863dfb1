pub mod Bytes
pub mod Faults
pub mod Lemmas
pub mod Memory
