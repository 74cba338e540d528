-- A word that writes no number is read as none.
pub use Rattle.ak_input.proofs.Surface.{number_none, no_number}
