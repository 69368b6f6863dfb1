pub mod Gives
pub mod Holding
pub mod Lemmas
pub mod Lent
pub mod Members
pub mod Path
pub mod Values
pub mod WholeNumbers
