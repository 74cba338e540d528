-- Lists, searches and outcomes: small lemmas that the others stand on.
pub mod Changing
pub mod Ends
pub mod Lists
pub mod Outcomes
pub mod Places
pub mod Searching
pub mod Seeing
