pub mod Filter
pub mod Limits
