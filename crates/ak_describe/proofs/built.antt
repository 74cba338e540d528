-- What lines build: what is always true of all parts, so that the loopers are plans where the second pass finds no fault.
pub mod AppLines
pub mod Fits
pub mod Forming
pub mod LooperLines
pub mod NextLine
pub mod PartsKept
pub mod RowLines
pub mod Whole
