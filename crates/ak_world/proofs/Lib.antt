pub mod InOrder
pub mod WorldTried
