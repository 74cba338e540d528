pub mod Carried
pub mod Threads
pub mod Together
