pub mod Answers
pub mod Diaries
pub mod Headline
pub mod Main
pub mod Run
pub mod Sends
pub mod Tally
