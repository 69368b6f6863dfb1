-- What private clauses cite, and no public one.
pub mod Gives
pub mod Marked
pub mod Queues
pub mod Touched
pub mod Walking
