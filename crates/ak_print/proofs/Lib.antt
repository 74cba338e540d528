pub mod Letters
pub mod Pieces
pub mod Words
pub mod LineEnds
pub mod OutcomeLines
pub mod ReadAgain
pub mod Surface
