-- What the words of a line say is what is read of them, one by one.
pub mod Again
pub mod Agreeing
pub mod Bracketing
pub mod Columns
pub mod Completing
pub mod Elements
pub mod Fitting
pub mod Keys
pub mod Numerals
pub mod Splitting
pub mod Takes
pub mod Walks
