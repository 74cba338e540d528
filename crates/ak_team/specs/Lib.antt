pub mod Doors
pub mod Greeting
pub mod InTime
pub mod Jobs
pub mod Launching
pub mod NewLooper
pub mod NewTeam
pub mod Opening
