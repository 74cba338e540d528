-- What main and the sessions do at the objects that all threads share: their diaries, act by act.
use Rattle.std.specs.Prelude.{◌≡◌, ℕ, Bool, true, false, List, [], ◌∷◌, ◌++◌, All, Contains, Option, None, Some}
use Rattle.ak_message.specs.declared.address.Address.{Address}
use Rattle.ak_flatten.specs.declared.item.Duty.{Duty}
use Rattle.ak_flatten.specs.declared.item.Duty.TheVariants as duty
use Rattle.ak_flatten.specs.Item.{ItemData}
use Rattle.ak_turn.specs.Noted.{Noted}
use Rattle.ak_roster.specs.declared.entry.RosterEntry.{RosterEntry}
use Rattle.ak_roster.specs.declared.entry.RosterEvent.{RosterEvent}
use Rattle.ak_roster.specs.declared.entry.RosterEvent.TheVariants as roster_event
use Rattle.ak_port.specs.declared.port_entry.PortEvent.{PortEvent}
use Rattle.ak_port.specs.declared.port_entry.PortEvent.TheVariants as event
use Rattle.ak_desk.specs.declared.entry.DeskEvent.TheVariants as desk_event
use Rattle.ak_desk.specs.declared.entry.Edit.{Edit}
use Rattle.ak_desk.specs.declared.entry.EditAnswer.{EditAnswer}
use Rattle.ak_desk.specs.Entry.{EntryData}
use Rattle.ak_diary.specs.Looper.{doors_got}
use Rattle.ak_diary.specs.Step.{Step, at_roster, at_port, at_desk, saw_roster}
use Rattle.ak_diary.specs.Turns.{FindsShut}
use Rattle.ak_diary.specs.Wants.{Converses, EntersPort, Withdraws}

-- ---- entries
-- a message for which nobody waits
abbrev pub owes_no_slot : Duty → Bool
owes_no_slot duty.None = true
owes_no_slot (duty.Slot n) = false
owes_no_slot (duty.Back to) = true

-- an entry of main's at a port, but for the write of an ask: it makes the port, sends what nobody waits for, is refused, or shuts the port
abbrev pub MayEnterPort : PortEvent → Type 0
MayEnterPort (event.Made capacity life) = Unit {0}
MayEnterPort (event.Written position item) = owes_no_slot item.duty ≡ true
MayEnterPort event.Full = Unit {0}
MayEnterPort event.Refused = Unit {0}
MayEnterPort event.Spent = Unit {0}
MayEnterPort (event.Took k) = ⊥
MayEnterPort (event.Rest k) = ⊥
MayEnterPort event.Shut = Unit {0}

-- and of a session's: it makes no port, and shuts none
abbrev pub SessionMayEnterPort : PortEvent → Type 0
SessionMayEnterPort (event.Made capacity life) = ⊥
SessionMayEnterPort (event.Written position item) = owes_no_slot item.duty ≡ true
SessionMayEnterPort event.Full = Unit {0}
SessionMayEnterPort event.Refused = Unit {0}
SessionMayEnterPort event.Spent = Unit {0}
SessionMayEnterPort (event.Took k) = ⊥
SessionMayEnterPort (event.Rest k) = ⊥
SessionMayEnterPort event.Shut = ⊥

-- why the item of an ask was not written: no entry tells want of memory
abbrev pub MayRefuse : Option PortEvent → Type 0
MayRefuse None = Unit {0}
MayRefuse (Some event.Refused) = Unit {0}
MayRefuse (Some event.Spent) = Unit {0}
MayRefuse (Some _) = ⊥

-- main has all doors from the launch on, and gets none
abbrev pub MayEnterRoster : RosterEvent → Type 0
MayEnterRoster (roster_event.Launch word outcome) = Unit {0}
MayEnterRoster (roster_event.Find word outcome) = Unit {0}
MayEnterRoster (roster_event.Gone team) = Unit {0}
MayEnterRoster (roster_event.Door looper) = ⊥

-- a session gets doors; it starts no team, and ends none
abbrev pub SessionMayEnterRoster : RosterEvent → Type 0
SessionMayEnterRoster (roster_event.Launch word outcome) = ⊥
SessionMayEnterRoster (roster_event.Find word outcome) = Unit {0}
SessionMayEnterRoster (roster_event.Gone team) = ⊥
SessionMayEnterRoster (roster_event.Door looper) = Unit {0}

pub record EntersEdit (looper : ℕ) (steps : List Step) : Type 0 where
  pub noted : Noted EntryData
  pub edit : Edit
  pub answer : EditAnswer
  pub event_is : noted.entry.plain.event ≡ desk_event.Edited edit answer
  pub is : steps ≡ at_desk looper noted ∷ []

-- ---- one act
-- by what its thread may enter at ports, but for the write of an ask, and at the roster
pub data IsActBy (AtPort : PortEvent → Type 0) (AtRoster : RosterEvent → Type 0) (steps : List Step) : Type 0 where
  -- it asked, and took what the slot was filled with
  asks : (to : Address) (item : ItemData) (flat : List ℕ) → Converses to item flat steps → IsActBy AtPort AtRoster steps
  -- it asked in vain, and cancelled the slot
  asks_in_vain : (to : Address) (e : Option PortEvent) → MayRefuse e → Withdraws to e steps → IsActBy AtPort AtRoster steps
  -- it made one entry at a port; or it was to shut the port, and found it shut
  enters_port : (looper : ℕ) (e : PortEvent) → AtPort e → EntersPort looper e steps → IsActBy AtPort AtRoster steps
  finds_shut : (looper : ℕ) → AtPort event.Shut → FindsShut looper steps → IsActBy AtPort AtRoster steps
  -- it edited the handlers of a looper
  edits : (looper : ℕ) → EntersEdit looper steps → IsActBy AtPort AtRoster steps
  -- it made one entry at the roster; or it was to end a team, and made none there
  enters_roster : (noted : Noted RosterEntry) → AtRoster noted.entry.event → steps ≡ at_roster noted ∷ [] → IsActBy AtPort AtRoster steps
  finds_gone : (team : ℕ) → AtRoster (roster_event.Gone team) → (seen : List RosterEntry) → steps ≡ saw_roster seen ∷ [] → IsActBy AtPort AtRoster steps

-- of main
abbrev pub IsAct : List Step → Type 0
IsAct steps = IsActBy MayEnterPort MayEnterRoster steps

-- an entry at a port or at a desk is behind one at the roster that got the door of that looper
abbrev pub IsThroughDoor : List Step → Step → Type 0
IsThroughDoor so_far (at_port looper noted) = Contains (doors_got so_far) looper
IsThroughDoor so_far (at_desk looper noted) = Contains (doors_got so_far) looper
IsThroughDoor so_far _ = Unit {0}

-- of a session, behind what it did before
pub record IsSessionAct (so_far act : List Step) : Type 0 where
  pub does : IsActBy SessionMayEnterPort SessionMayEnterRoster act
  pub through_doors : All (IsThroughDoor so_far) act

-- ---- a diary: act after act, each of that kind behind those before it
pub data AreActs (Act : List Step → List Step → Type 0) : List Step → Type 0 where
  begun : AreActs Act []
  went_on : (so_far act : List Step) → AreActs Act so_far → Act so_far act → AreActs Act (so_far ++ act)

abbrev pub IsMainDiary : List Step → Type 0
IsMainDiary steps = AreActs (λ so_far act. IsAct act) steps

abbrev pub IsSessionDiary : List Step → Type 0
IsSessionDiary steps = AreActs IsSessionAct steps
