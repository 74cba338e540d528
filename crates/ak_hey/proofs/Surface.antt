-- What the layers above may cite of these proofs: they name this file alone.
pub use Rattle.ak_hey.proofs.grammar.Columns.{said_is_read, refused_at_first_bad}
pub use Rattle.ak_hey.proofs.grammar.Fitting.{hey_fits, hey_unpopped}
