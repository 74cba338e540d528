-- The grammar of the lines and the readers of their words say the same.
pub mod Actions
pub mod Building
pub mod Choices
pub mod Codes
pub mod Dests
pub mod Fields
pub mod Filters
pub mod Heads
pub mod Hooks
pub mod Messages
pub mod Numbers
pub mod Parts
pub mod Properties
pub mod Says
pub mod Values
pub mod Words
