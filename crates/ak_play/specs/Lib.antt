pub mod Blocks
pub mod Came
pub mod Gathered
pub mod Parts
pub mod Play
pub mod Sessions
pub mod Steps
