pub mod Diary
pub mod Histories
pub mod Laws
pub mod Looper
pub mod Step
pub mod Turns
pub mod Wants
