pub mod Drawing
pub mod Fitting
pub mod Flat
pub mod Leaping
pub mod Repeating
pub mod Taking
