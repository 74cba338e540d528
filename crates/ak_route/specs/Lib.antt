pub mod Filtering
pub mod Handlers
pub mod Laws
pub mod Matching
pub mod Receiving
pub mod Resolving
pub mod Routing
pub mod Seen
