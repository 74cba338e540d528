pub mod Asks
pub mod Sends
