-- What the layers above may cite of these proofs: they name this file alone.
pub use Rattle.ak_turn.proofs.Calls.{known_is_made, knows_other, knows_still, knows_whole, makes_one, seen_then_called, seen_then_seen, still_made}
pub use Rattle.ak_turn.proofs.Keeping.{answered_at_turn_keeps, answered_keeps, answered_starts, called_keeps, called_starts, keeps_itself, keeps_same, keeps_then_keeps, looked_then_answered, passing_keeps, seen_keeps, seen_nothing, seen_starts, seen_still, seen_then_entered, seen_then_looked, starts_itself, starts_then_starts, turn_keeps}
pub use Rattle.ak_turn.proofs.NewSeats.{first_knows, own_is_made}
pub use Rattle.ak_turn.proofs.Noting.{known_notes, noted_is_made, noted_stands, seen_notes_nothing, called_notes_one, noted-others, noted-own, same_before}
pub use Rattle.ak_turn.proofs.Stamps.{next_is_past, rise_before, rise_push}
