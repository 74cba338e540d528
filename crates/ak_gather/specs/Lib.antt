pub mod Below
pub mod Ending
pub mod Gathering
pub mod Members
