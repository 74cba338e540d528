-- What the layers above may cite of these proofs: they name this file alone.
pub use Rattle.ak_message.proofs.Depths.{depth_in_fields, depth_in_values, no_field}
pub use Rattle.ak_message.proofs.Finding.{added_values_are_found-proof, names_differ, same_kind-refl}
pub use Rattle.ak_message.proofs.Keeping.{depth-added, sound_after}
pub use Rattle.ak_message.proofs.KindLetters.{code-letters}
pub use Rattle.ak_message.proofs.Unpopping.{is_unpopped, kind-unpopped, nested-unpopped_fields, whole-unpopped}
