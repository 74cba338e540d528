pub mod Accounted
pub mod Dispatched
pub mod Lists
pub mod Numbered
pub mod Quiet
pub mod Rested
pub mod Surface
pub mod Tallied
