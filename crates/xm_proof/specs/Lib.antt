pub mod Argument
pub mod Form
pub mod Lemmas
pub mod OfNet
pub mod Sums
pub mod Tests
pub mod Valid
