-- What the layers above may cite of these proofs: they name this file alone.
pub use Rattle.ak_diary.proofs.Lists.{get_parts}
pub use Rattle.ak_diary.proofs.Numbered.{IsNumbered, dispatch_listed, position_is, written_numbered}
pub use Rattle.ak_diary.proofs.Quiet.{IsQuiet, IsServing, all_serving, are_quiet, handed-append, quiet_at_no_desk, quiet_calls, quiet_hand_nothing, serving_not_short, settles_quiet}
pub use Rattle.ak_diary.proofs.Tallied.{DispatchesIt, comes_to_it, entries_both, handed_both, handed_in, own_step, tallied}
