pub mod Counts
pub mod Joins
pub mod Starts
pub mod Surface
