-- What the layers above may cite of these proofs: they name this file alone.
pub use Rattle.ak_port.proofs.PortCalled.{answered_at_turn}
pub use Rattle.ak_port.proofs.PortItems.{drop-numbered, length-numbered, numbered-append, take-numbered}
pub use Rattle.ak_port.proofs.PortLimits.{reached_by, unmade_reached}
pub use Rattle.ak_port.proofs.PortReplays.{AreSteps-before, AreSteps-behind, replayed-append, state_of-push}
pub use Rattle.ak_port.proofs.PortSound.{rest_items, took_items}
pub use Rattle.ak_port.proofs.PortTaken.{kept_at_turn, told_at_end}
pub use Rattle.ak_port.proofs.PortTaking.{can_after_turn, can_titled}
pub use Rattle.ak_port.proofs.PortWriting.{sends_one, sent_known_other, sent_known_still, sent_known_whole, takes_on}
pub use Rattle.ak_port.proofs.ReplySlots.{get_last, get_left, get_other, get_push, get_same, get_staged}
