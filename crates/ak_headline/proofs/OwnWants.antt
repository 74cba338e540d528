-- What a reaction asks for is never that a message is sent on, and it leaves the looper's number as it was.
use Rattle.std.proofs.Common.{◌≡◌, ℕ, ◌+◌, Bool, true, false, cond, List, [], ◌∷◌, ◌++◌, Option, None, Some, All, refl}
use Rattle.std.proofs.lemmas.List.Elements.{All-nil, All-push}
use Rattle.ak_message.specs.declared.address.Address.{Address}
use Rattle.ak_message.specs.Message.{MessageData}
use Rattle.ak_route.specs.declared.outcome.Route.{Route}
use Rattle.ak_route.specs.declared.outcome.Route.TheVariants as route
use Rattle.ak_route.specs.declared.outcome.Taker.TheVariants as taker
use Rattle.ak_action.specs.declared.action.Action.{Action}
use Rattle.ak_action.specs.declared.answer.Answer.{Answer}
use Rattle.ak_action.specs.declared.answer.Answer.TheVariants as answer
use Rattle.ak_action.specs.declared.answer.Want.{Want}
use Rattle.ak_action.specs.declared.answer.Want.TheVariants as want
use Rattle.ak_action.specs.declared.doing.Sending.{Sending}
use Rattle.ak_action.specs.declared.doing.Sending.TheVariants as sending
use Rattle.ak_action.specs.declared.state.DeskState.{DeskState}
use Rattle.ak_action.specs.Acts.{Acts, Course, act, acts_on, asks, carried_out, ended, found, goes_on, heard, is_at, opened, sent, taken_in, waits, want_of, while_going}
use Rattle.ak_action.specs.Doing.{Doing, finds, puts, quits, replies, says, sends, stops}
use Rattle.ak_action.specs.Interp.{actions_of}
use Rattle.ak_desk.specs.Dispatch.{by_route}
use Rattle.ak_headline.proofs.Wanting.{IsOwnWant}

module _ (number : ℕ) where
  -- so far nothing is sent on, and it is the looper of that number
  record StandsSo (p : Acts) : Type 0 where
    own : All IsOwnWant p.wants
    looper : p.state.looper ≡ number

  heard_so : (go_on : Answer → Acts → Acts) (answers : List Answer) (p : Acts) → ((a : Answer) (q : Acts) → StandsSo q → StandsSo (go_on a q)) → StandsSo p → StandsSo (heard go_on answers p)
  heard_so go_on [] p each h = record { own = h.own; looper = h.looper }
  heard_so go_on (answer.NoMemory ∷ rest) p each h = record { own = h.own; looper = h.looper }
  heard_so go_on (answer.Team team first ∷ rest) p each h = each (answer.Team team first) (record p { answers = rest }) (record { own = h.own; looper = h.looper })
  heard_so go_on (answer.NoTeam ∷ rest) p each h = each answer.NoTeam (record p { answers = rest }) (record { own = h.own; looper = h.looper })
  heard_so go_on (answer.Written position ∷ rest) p each h = each (answer.Written position) (record p { answers = rest }) (record { own = h.own; looper = h.looper })
  heard_so go_on (answer.Full ∷ rest) p each h = each answer.Full (record p { answers = rest }) (record { own = h.own; looper = h.looper })
  heard_so go_on (answer.Closed ∷ rest) p each h = each answer.Closed (record p { answers = rest }) (record { own = h.own; looper = h.looper })
  heard_so go_on (answer.Spent ∷ rest) p each h = each answer.Spent (record p { answers = rest }) (record { own = h.own; looper = h.looper })
  heard_so go_on (answer.TooLong ∷ rest) p each h = each answer.TooLong (record p { answers = rest }) (record { own = h.own; looper = h.looper })
  heard_so go_on (answer.Reply flat m ∷ rest) p each h = each (answer.Reply flat m) (record p { answers = rest }) (record { own = h.own; looper = h.looper })

  asks_so : (w : Want) (go_on : Answer → Acts → Acts) (p : Acts) → IsOwnWant w → ((a : Answer) (q : Acts) → StandsSo q → StandsSo (go_on a q)) → StandsSo p → StandsSo (asks w go_on p)
  asks_so w go_on p own each h = heard_so go_on p.answers (record p { wants = p.wants ++ w ∷ [] }) each (record { own = All-push IsOwnWant p.wants w h.own own; looper = h.looper })

  taken_so : (s : DeskState) (token : ℕ) (into : Option ℕ) (m : MessageData) → s.looper ≡ number → (taken_in s token into m).looper ≡ number
  taken_so s token None m e = e
  taken_so s token (Some place) m e = e

  sent_so : (token : ℕ) (how : Sending) (a : Answer) (p : Acts) → StandsSo p → StandsSo (sent token how a p)
  sent_so token (sending.Post back) a p h = record { own = h.own; looper = h.looper }
  sent_so token (sending.Ask into) (answer.Reply flat m) p h = record { own = h.own; looper = taken_so p.state token into m h.looper }
  sent_so token (sending.Ask into) (answer.Team team first) p h = record { own = h.own; looper = h.looper }
  sent_so token (sending.Ask into) answer.NoTeam p h = record { own = h.own; looper = h.looper }
  sent_so token (sending.Ask into) (answer.Written position) p h = record { own = h.own; looper = h.looper }
  sent_so token (sending.Ask into) answer.Full p h = record { own = h.own; looper = h.looper }
  sent_so token (sending.Ask into) answer.Closed p h = record { own = h.own; looper = h.looper }
  sent_so token (sending.Ask into) answer.Spent p h = record { own = h.own; looper = h.looper }
  sent_so token (sending.Ask into) answer.TooLong p h = record { own = h.own; looper = h.looper }
  sent_so token (sending.Ask into) answer.NoMemory p h = record { own = h.own; looper = h.looper }

  own_want : (to : Address) (how : Sending) (m : MessageData) → IsOwnWant (want_of to how m)
  own_want to (sending.Post back) m = tt
  own_want to (sending.Ask into) m = tt

  found_so : (token : ℕ) (how : Sending) (m : MessageData) (a : Answer) (p : Acts) → StandsSo p → StandsSo (found token how m a p)
  found_so token how m (answer.Team team first) p h = asks_so _ (sent token how) _ (own_want _ how m) (sent_so token how) (record { own = h.own; looper = h.looper })
  found_so token how m answer.NoTeam p h = record { own = h.own; looper = h.looper }
  found_so token how m (answer.Written position) p h = record { own = h.own; looper = h.looper }
  found_so token how m answer.Full p h = record { own = h.own; looper = h.looper }
  found_so token how m answer.Closed p h = record { own = h.own; looper = h.looper }
  found_so token how m answer.Spent p h = record { own = h.own; looper = h.looper }
  found_so token how m answer.TooLong p h = record { own = h.own; looper = h.looper }
  found_so token how m (answer.Reply flat message) p h = record { own = h.own; looper = h.looper }
  found_so token how m answer.NoMemory p h = record { own = h.own; looper = h.looper }

  carried_so : (token : ℕ) (does : Doing) (p : Acts) → StandsSo p → StandsSo (carried_out token does p)
  carried_so token (says e) p h = record { own = h.own; looper = h.looper }
  carried_so token (replies m) p h = record { own = h.own; looper = h.looper }
  carried_so token (puts place value) p h = record { own = h.own; looper = h.looper }
  carried_so token (sends to how m) p h = asks_so (want_of to how m) (sent token how) p (own_want to how m) (sent_so token how) h
  carried_so token (finds w how m) p h = asks_so (want.Find w) (found token how m) p tt (found_so token how m) h
  carried_so token stops p h = record { own = h.own; looper = h.looper }
  carried_so token quits p h = record { own = h.own; looper = h.looper }

  going_so : (on : Acts → Acts) (course : Course) (p : Acts) → ((q : Acts) → StandsSo q → StandsSo (on q)) → StandsSo p → StandsSo (while_going on course p)
  going_so on goes_on p each h = each p h
  going_so on ended p each h = h
  going_so on waits p each h = h

  if_out : (b : Bool) (p q : Acts) → StandsSo p → StandsSo q → StandsSo (cond b p q)
  if_out true p q h k = h
  if_out false p q h k = k

  acts_so : (token : ℕ) (m : MessageData) (memory : Option ℕ) (place : ℕ) (actions : List Action) (p : Acts) → StandsSo p → StandsSo (acts_on token m memory place actions p)
  acts_so token m memory place [] p h = h
  acts_so token m memory place (a ∷ rest) p h =
      if_out (is_at memory place) _ _ (record { own = h.own; looper = h.looper })
      (going_so (acts_on token m memory (place + 1) rest) (act token m a p).course (act token m a p) (acts_so token m memory (place + 1) rest) (carried_so token _ p h))

reaction_so : (s : DeskState) (token : ℕ) (m : MessageData) (place : ℕ) (answers : List Answer) (memory : Option ℕ) → StandsSo s.looper (acts_on token m memory 0 (actions_of s token place) (opened s answers))
reaction_so s token m place answers memory = acts_so s.looper token m memory 0 (actions_of s token place) (opened s answers) (record { own = All-nil IsOwnWant; looper = refl })

-- ---- of a whole message
abbrev pub IsNoForward : Route → Type 0
IsNoForward (route.Forward looper) = ⊥
IsNoForward _ = Unit {0}

pub wants_are_own : (s : DeskState) (m : MessageData) (r : Route) (answers : List Answer) (memory : Option ℕ) → IsNoForward r → All IsOwnWant (by_route s m r answers memory).wants
wants_are_own s m (route.Deliver token (taker.Property place)) answers None stays = All-nil IsOwnWant
wants_are_own s m (route.Deliver token (taker.Property place)) answers (Some i) stays = All-nil IsOwnWant
wants_are_own s m (route.Deliver token (taker.Reaction place)) answers memory stays = (reaction_so s token m place answers memory).own
wants_are_own s m (route.Deliver token taker.BuiltIn) answers None stays = All-nil IsOwnWant
wants_are_own s m (route.Deliver token taker.BuiltIn) answers (Some i) stays = All-nil IsOwnWant
wants_are_own s m route.Skipped answers memory stays = All-nil IsOwnWant
wants_are_own s m route.Dropped answers memory stays = All-nil IsOwnWant
wants_are_own s m route.NotUnderstood answers memory stays = All-nil IsOwnWant
wants_are_own s m (route.Forward looper) answers memory stays = absurd stays

pub looper_stays : (s : DeskState) (m : MessageData) (r : Route) (answers : List Answer) (memory : Option ℕ) → (by_route s m r answers memory).state.looper ≡ s.looper
looper_stays s m (route.Deliver token (taker.Property place)) answers None = refl
looper_stays s m (route.Deliver token (taker.Property place)) answers (Some i) = refl
looper_stays s m (route.Deliver token (taker.Reaction place)) answers memory = (reaction_so s token m place answers memory).looper
looper_stays s m (route.Deliver token taker.BuiltIn) answers None = refl
looper_stays s m (route.Deliver token taker.BuiltIn) answers (Some i) = refl
looper_stays s m route.Skipped answers memory = refl
looper_stays s m route.Dropped answers memory = refl
looper_stays s m route.NotUnderstood answers memory = refl
looper_stays s m (route.Forward looper) [] memory = refl
looper_stays s m (route.Forward looper) (a ∷ rest) memory = refl

-- there is a reply, unless it is sent on
pub record IsReplied (reply : Option MessageData) : Type 0 where
  pub message : MessageData
  pub is : reply ≡ Some message

pub has_reply : (s : DeskState) (m : MessageData) (r : Route) (answers : List Answer) (memory : Option ℕ) → IsNoForward r → IsReplied (by_route s m r answers memory).reply
has_reply s m (route.Deliver token (taker.Property place)) answers None stays = record { message = _; is = refl }
has_reply s m (route.Deliver token (taker.Property place)) answers (Some i) stays = record { message = _; is = refl }
has_reply s m (route.Deliver token (taker.Reaction place)) answers memory stays = record { message = _; is = refl }
has_reply s m (route.Deliver token taker.BuiltIn) answers None stays = record { message = _; is = refl }
has_reply s m (route.Deliver token taker.BuiltIn) answers (Some i) stays = record { message = _; is = refl }
has_reply s m route.Skipped answers memory stays = record { message = _; is = refl }
has_reply s m route.Dropped answers memory stays = record { message = _; is = refl }
has_reply s m route.NotUnderstood answers memory stays = record { message = _; is = refl }
has_reply s m (route.Forward looper) answers memory stays = absurd stays
