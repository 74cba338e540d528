-- What the layers above may cite of these proofs: they name this file alone.
pub use Rattle.ak_action.proofs.Behind.{IsAsked, IsAsking, IsPosted, IsPosting, IsSentAs, IsWaiting, NextStands, StandsBehind, next_stands, sent_so}
pub use Rattle.ak_action.proofs.Chained.{one_does_not}
pub use Rattle.ak_action.proofs.Growing.{AreMade, made-next, named-other, room-next}
pub use Rattle.ak_action.proofs.Heard.{heard_of_send, heard_of_team}
pub use Rattle.ak_action.proofs.LawSteps.{next_drop}
pub use Rattle.ak_action.proofs.Rows.{actions-put}
pub use Rattle.ak_action.proofs.Tested.{found_any, Tests}
