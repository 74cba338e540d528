-- The second pass, name by name: where each name stands, whom it leads to, and which of them is the first with a fault.
pub mod Asking
pub mod LookedUp
pub mod Naming
pub mod Noting
pub mod Ordering
pub mod Placed
pub mod Seconding
