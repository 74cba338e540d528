-- What is answered, by what both passes give: the laws of descriptions, lines as they come, and that what is described is whole.
pub mod BothPasses
pub mod LawsHold
pub mod Prefixes
pub mod Told
pub mod WholeApps
