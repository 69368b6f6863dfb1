pub mod Divisors
pub mod Merging
pub mod Cancelling
