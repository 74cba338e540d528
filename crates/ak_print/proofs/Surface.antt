-- What the layers above may cite of these proofs: they name this file alone.
unfoldable pub use Rattle.ak_print.proofs.LineEnds.{line_ends}
pub use Rattle.ak_print.proofs.LineEnds.{line_ends-append, signed_end}
