pub mod Last
pub mod Shown
