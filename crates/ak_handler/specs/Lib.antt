pub mod Changes
pub mod Handlers
pub mod Laws
pub mod Lending
pub mod Limits
pub mod Rows
pub mod Seen
