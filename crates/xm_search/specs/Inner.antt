-- What private clauses cite, and no public one.
pub mod Choosing
pub mod Fitting
pub mod Goals
pub mod Ground
pub mod Growing
pub mod Looking
pub mod Named
pub mod Places
pub mod Progress
pub mod Taken
pub mod Walking
