pub mod Merged
pub mod World
