-- What the layers above may cite of these proofs: they name this file alone.
pub use Rattle.ak_lines.proofs.Crossing.{SessionEnd-send, SessionJob-send}
