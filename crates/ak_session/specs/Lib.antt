pub mod Calls
pub mod Doing
pub mod Ready
pub mod Stands
