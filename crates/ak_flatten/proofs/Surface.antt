-- What the layers above may cite of these proofs: they name this file alone.
pub use Rattle.ak_flatten.proofs.Items.{message_is, specifiers-unpopped, spelled_as_spells}
pub use Rattle.ak_flatten.proofs.LawsHold.{spelled_is_read}
