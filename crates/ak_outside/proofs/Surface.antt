-- What the layers above may cite of these proofs: they name this file alone.
pub use Rattle.ak_outside.proofs.Counts.{Rose-after, Rose-before, Stayed-not_Rose}
pub use Rattle.ak_outside.proofs.Joins.{Appends-joined}
