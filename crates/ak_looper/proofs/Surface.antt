-- What the layers above may cite of these proofs: they name this file alone.
pub use Rattle.ak_looper.proofs.Counting.{all_by_main, object, threads}
pub use Rattle.ak_looper.proofs.Crossing.{Door-send, Hands-send, KeptDoor-send, LooperEnd-send, LooperJob-send, RosterBook-send}
pub use Rattle.ak_looper.proofs.Doors.{new_door, nothing_noted, still_new}
pub use Rattle.ak_looper.proofs.Kept.{no_number}
pub use Rattle.ak_looper.proofs.Lifting.{all_set, door_among, more_none, same_numbers, way_number, way_within}
pub use Rattle.ak_looper.proofs.Opening.{last_there, looked_at_nothing, no_entries, no_sights, on_err, there_at, threads_push, within_doors}
pub use Rattle.ak_looper.proofs.RosterStands.{plain_starts, stamped_on, time_on}
pub use Rattle.ak_looper.proofs.RosterSteps.{entered_goes, last_shown, looked_goes, noted_call}
pub use Rattle.ak_looper.proofs.RosterTurns.{entered_there, leads_on, looked_by_turn, made_on}
pub use Rattle.ak_looper.proofs.Sides.{SeatGoes, goes_at_book, goes_at_port, goes_nothing, goes_seeing_book, goes_then, looks, noted_in_book, noted_there, stays}
pub use Rattle.ak_looper.proofs.Strangers.{is_stranger, none_of_door, own_entries}
