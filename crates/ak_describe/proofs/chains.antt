-- The chains of next handlers: each ends or one comes back, and the places that are kept of them find the same.
pub mod Chaining
pub mod ChainWalks
pub mod Following
pub mod FollowingMore
pub mod Leading
pub mod LedNames
pub mod LedPlaces
pub mod Walks
