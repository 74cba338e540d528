-- What the layers above may cite of these proofs: they name this file alone.
pub use Rattle.ak_run.proofs.Calls.{does_same}
pub use Rattle.ak_run.proofs.Doing.{does_so_then, done_then}
pub use Rattle.ak_run.proofs.EditsMore.{started_so_far}
pub use Rattle.ak_run.proofs.Seen.{knows_by, seen_further, seen_on}
pub use Rattle.ak_run.proofs.Starts.{last_one, none_more, one_more, starts_then, stops_block, stops_then}
