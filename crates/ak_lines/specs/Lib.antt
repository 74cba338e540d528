pub mod Blocks
pub mod Came
pub mod Carried
