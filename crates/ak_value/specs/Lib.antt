pub mod Access
pub mod Choice
pub mod Elements
pub mod Laws
pub mod Limits
pub mod Seen
