-- The first pass, line by line: what always holds of what is open, and what a line makes of it, or which of its faults is first.
pub mod Carrying
pub mod Heading
pub mod Judging
pub mod Keeping
pub mod Passing
pub mod Reading
pub mod Standing
