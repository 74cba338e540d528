-- What the layers above may cite of these proofs: they name this file alone.
pub use Rattle.ak_headline.proofs.Lists.{same_last}
pub use Rattle.ak_headline.proofs.LoopersTold.{list_both, turn_enters}
pub use Rattle.ak_headline.proofs.Owing.{told_none, told_some}
pub use Rattle.ak_headline.proofs.OwnWants.{IsNoForward, IsReplied, has_reply, wants_are_own}
pub use Rattle.ak_headline.proofs.Paying.{short_left, short_right}
pub use Rattle.ak_headline.proofs.Replies.{is_short}
pub use Rattle.ak_headline.proofs.Senders.{accepted_there}
pub use Rattle.ak_headline.proofs.Wanting.{IsOwnWant}
