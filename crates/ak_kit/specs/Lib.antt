pub mod Gen
pub mod Journal
pub mod Kit
pub mod Laws
pub mod Sequence
pub mod Summary
pub mod Untold
