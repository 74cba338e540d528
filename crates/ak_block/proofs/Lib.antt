pub mod Closing
pub mod Crossing
pub mod Ends
pub mod Launching
pub mod Started
pub mod Whole
