pub mod Acts
pub mod Crossing
pub mod Finding
pub mod Going
pub mod Lines
pub mod Refusals
pub mod Surface
