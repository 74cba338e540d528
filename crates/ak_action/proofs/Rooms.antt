-- Where a reaction stands, and the room that it keeps for words.
use Rattle.std.proofs.Common.{◌≡◌, ℕ, ◌<◌, sym, subst}
use Rattle.ak_action.specs.declared.doing.Sending.{Sending}
use Rattle.ak_action.specs.declared.interp.Stage.{Stage}
use Rattle.ak_action.specs.declared.interp.Stage.TheVariants as stage
use Rattle.ak_action.specs.Interp.{InterpData}
use Rattle.ak_action.specs.InterpInside.{HasRoomAt}
use Rattle.ak_action.specs.Steps.{IsFinding, IsGoing, IsInAction}

going_where_finding : (at : Stage) → IsFinding at → IsGoing at
going_where_finding stage.Ready finding = absurd finding
going_where_finding (stage.Finding how m) finding = tt
going_where_finding (stage.Found looper how m) finding = absurd finding
going_where_finding (stage.Sent how) finding = absurd finding
going_where_finding stage.Ended finding = absurd finding

pub in_action_where_finding : (i : InterpData) → IsFinding i.stage → i.place < 16 → IsInAction i
in_action_where_finding i finding low = record { place = low; going = going_where_finding i.stage finding }

pub in_action_where_sent : (i : InterpData) (how : Sending) → i.stage ≡ stage.Sent how → i.place < 16 → IsInAction i
in_action_where_sent i how sent low = record { place = low; going = subst IsGoing (sym sent) tt }

-- it waits for an answer to the action at its place
pub place_where_finding : (at : Stage) (place room : ℕ) → IsFinding at → HasRoomAt at place room → place < 16
place_where_finding stage.Ready place room finding h = absurd finding
place_where_finding (stage.Finding how m) place room finding h = h.0
place_where_finding (stage.Found looper how m) place room finding h = absurd finding
place_where_finding (stage.Sent how) place room finding h = absurd finding
place_where_finding stage.Ended place room finding h = absurd finding

at_sent : (at : Stage) (how : Sending) (place room : ℕ) → at ≡ stage.Sent how → HasRoomAt at place room → HasRoomAt (stage.Sent how) place room
at_sent at how place room sent h = subst (λ (x : Stage). HasRoomAt x place room) sent h

pub place_where_sent : (at : Stage) (how : Sending) (place room : ℕ) → at ≡ stage.Sent how → HasRoomAt at place room → place < 16
place_where_sent at how place room sent h = (at_sent at how place room sent h).0
