-- What the layers above may cite of these proofs: they name this file alone.
pub use Rattle.ak_input.proofs.Surface.{app_word_again, app_word_takes}
pub use Rattle.ak_describe.proofs.ground.Ends.{last_none}
pub use Rattle.ak_describe.proofs.ground.Places.{all_there}
pub use Rattle.ak_describe.proofs.lines.Keeping.{nothing_fits}
pub use Rattle.ak_describe.proofs.lines.Passing.{fault_read, follow_read, told_of}
pub use Rattle.ak_describe.proofs.lines.Reading.{Outcome, adds_fits, is_added, is_faulty, line_adds, line_faults, outcome}
pub use Rattle.ak_describe.proofs.lines.Standing.{StateFits, complete_is}
