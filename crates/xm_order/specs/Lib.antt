pub mod Dependence
pub mod Inner
pub mod Lemmas
pub mod Loop
pub mod OneFrame
pub mod OneRun
pub mod Settle
pub mod Sides
