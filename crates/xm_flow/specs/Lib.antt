pub mod FlowRows
pub mod Holding
pub mod Inner
pub mod Lemmas
pub mod Slots
pub mod Tested
pub mod ValidLemma
