-- What the layers above may cite of these proofs: they name this file alone.
pub use Rattle.ak_desk.proofs.History.{counted_push, paired_routed, replays_push}
pub use Rattle.ak_desk.proofs.Sending.{Desk-send}
