-- What the layers above may cite of these proofs: they name this file alone.
pub use Rattle.ak_property.proofs.Texts.{one-more, text-fits, texts-grown}
