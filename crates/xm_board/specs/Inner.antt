-- What private clauses cite, and no public one.
pub mod Choosing
pub mod Gluing
pub mod Jobs
pub mod Logging
pub mod Merging
pub mod Posting
pub mod Rounds
pub mod Standing
pub mod Starting
pub mod Taking
