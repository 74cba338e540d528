-- What a session does by one call, step by step, by what the call answers.
use Rattle.std.specs.Prelude.{◌≡◌, ◌⊎◌, ℕ, ◌+◌, ◌≤◌, ◌==◌, Bool, true, false, List, [], ◌∷◌, ◌++◌, length, Option, None, Some, Result, Ok, Err}
use Rattle.std.specs.List.{list_any}
use Rattle.ak_base.specs.Limits.{looper_limit}
use Rattle.ak_base.specs.declared.app_word.AppWord.{AppWord}
use Rattle.ak_message.specs.declared.address.Address.{Address}
use Rattle.ak_message.specs.Message.{MessageData}
use Rattle.ak_flatten.specs.Item.{ItemData}
use Rattle.ak_turn.specs.Noted.{Noted}
use Rattle.ak_roster.specs.declared.entry.RosterEntry.{RosterEntry}
use Rattle.ak_roster.specs.declared.entry.RosterEvent.TheVariants as roster_event
use Rattle.ak_roster.specs.declared.head.AppHead.{AppHead}
use Rattle.ak_roster.specs.declared.team.Running.{Running}
use Rattle.ak_roster.specs.Heads.{team_for}
use Rattle.ak_roster.specs.Machine.{outcome_found, state_of}
use Rattle.ak_port.specs.declared.port_entry.PortEntry.{PortEntry}
use Rattle.ak_port.specs.declared.port_entry.PortEvent.{PortEvent}
use Rattle.ak_port.specs.declared.port_entry.PortEvent.TheVariants as event
use Rattle.ak_messenger.specs.declared.asking.Reply.{Reply}
use Rattle.ak_messenger.specs.declared.envelope.Envelope.{Envelope}
use Rattle.ak_messenger.specs.declared.fault.SendFault.{SendFault}
use Rattle.ak_messenger.specs.declared.fault.SendFault.TheVariants as fault
use Rattle.ak_messenger.specs.Sends.{post_event}
use Rattle.ak_desk.specs.declared.entry.DeskEvent.TheVariants as desk_event
use Rattle.ak_desk.specs.declared.entry.Edit.{Edit}
use Rattle.ak_desk.specs.declared.entry.EditAnswer.{EditAnswer}
use Rattle.ak_desk.specs.Entry.{EntryData}
use Rattle.ak_diary.specs.Looper.{doors_got}
use Rattle.ak_diary.specs.Step.{Step, at_desk, at_roster}
use Rattle.ak_diary.specs.Wants.{AsksInVain, Converses, EntersPort, GetsDoor, Withdraws}
use Rattle.ak_session.specs.declared.answers.Found.{Found}
use Rattle.ak_session.specs.declared.answers.Found.TheVariants as found
use Rattle.ak_session.specs.declared.answers.Edited.{Edited}
use Rattle.ak_session.specs.declared.answers.Edited.TheVariants as edited

-- ---- look-ups
-- one entry, at that place, with what was found: what the roster tells there
pub record FindsAt (heads : List AppHead) (word : AppWord) (running : Option Running) (place : ℕ) (steps : List Step) : Type 0 where
  pub noted : Noted RosterEntry
  pub event_is : noted.entry.event ≡ roster_event.Find word (outcome_found running)
  pub running_is : running ≡ team_for heads (state_of heads noted.before).running word
  pub place_is : place ≡ length noted.before
  pub is : steps ≡ at_roster noted ∷ []

abbrev pub FoundSo : List AppHead → AppWord → Found → List Step → Type 0
FoundSo heads word (found.Team team first loopers place) steps =
    (description : ℕ) × FindsAt heads word (Some (record { team = team; description = description; first = first; loopers = loopers })) place steps
FoundSo heads word (found.NoTeam place) steps = FindsAt heads word None place steps
FoundSo heads word found.NoMemory steps = steps ≡ []

-- a team that was found has a looper, and none past the last number that a looper may have
abbrev pub HasLoopers : Found → Type 0
HasLoopers (found.Team team first loopers place) = (1 ≤ loopers) × (first + loopers ≤ looper_limit)
HasLoopers (found.NoTeam place) = Unit {0}
HasLoopers found.NoMemory = Unit {0}

-- ---- doors
module _ (so_far : List Step) where
  -- it got that looper's door by the steps so far
  abbrev pub has_door : ℕ → Bool
  has_door looper = list_any (λ got. got == looper) (doors_got so_far)

  abbrev pub OpensFor : Bool → ℕ → List Step → Type 0
  OpensFor true looper steps = steps ≡ []
  OpensFor false looper steps = GetsDoor looper steps

  -- it has that looper's door, or gets it now
  abbrev pub Opens : ℕ → List Step → Type 0
  Opens looper steps = OpensFor (has_door looper) looper steps

  -- it does so, and then does P
  pub record Through (looper : ℕ) (P : List Step → Type 0) (steps : List Step) : Type 0 where
    pub door : List Step
    pub opens : Opens looper door
    pub rest : List Step
    pub then_does : P rest
    pub is : steps ≡ door ++ rest

  -- it found no memory for a door that it has not
  pub record LacksDoor (looper : ℕ) (steps : List Step) : Type 0 where
    pub without : has_door looper ≡ false
    pub is : steps ≡ []

  -- a send through the door; where memory was wanting, maybe for the door
  abbrev pub SendsThrough : {A : Type 0} → ℕ → Result A SendFault → (List Step → Type 0) → List Step → Type 0
  SendsThrough looper (Ok x) P steps = Through looper P steps
  SendsThrough looper (Err fault.TooLong) P steps = Through looper P steps
  SendsThrough looper (Err fault.NoMemory) P steps = LacksDoor looper steps ⊎ Through looper P steps
  SendsThrough looper (Err fault.BadPort) P steps = Through looper P steps
  SendsThrough looper (Err fault.Spent) P steps = Through looper P steps
  SendsThrough looper (Err fault.WouldBlock) P steps = Through looper P steps

  -- the same of an edit
  abbrev pub EditsThrough : ℕ → Edited → (List Step → Type 0) → List Step → Type 0
  EditsThrough looper (edited.Entered came place) P steps = Through looper P steps
  EditsThrough looper edited.NoMemory P steps = LacksDoor looper steps ⊎ Through looper P steps

-- ---- sends
-- one entry at that port with that event, the last of what it has seen there
pub record EntersLast (looper : ℕ) (e : PortEvent) (seen : List PortEntry) (steps : List Step) : Type 0 where
  pub enters : EntersPort looper e steps
  pub last : seen ≡ enters.noted.before ++ enters.noted.entry ∷ []

abbrev pub EnteredSo : ℕ → List PortEntry → List Step → Option PortEvent → Type 0
EnteredSo looper seen steps None = steps ≡ []
EnteredSo looper seen steps (Some e) = EntersLast looper e seen steps

-- a post: its one entry, by its answer
abbrev pub PostedSo : ℕ → Envelope → MessageData → Result ℕ SendFault → List PortEntry → List Step → Type 0
PostedSo looper envelope message sent seen steps = EnteredSo looper seen steps (post_event envelope message sent)

abbrev pub address_of : ℕ → ItemData → Address
address_of looper item = record { looper = looper; target = item.target }

-- it was answered: the slot, the item and the reply's text
pub record Answered (looper : ℕ) (item : ItemData) (reply : Reply) (steps : List Step) : Type 0 where
  pub converses : Converses (address_of looper item) item reply.flat steps
  pub slot_is : converses.slot ≡ reply.slot

-- it was refused, by the last entry that it has seen at that port
pub record RefusedBy (looper : ℕ) (item : ItemData) (e : PortEvent) (seen : List PortEntry) (steps : List Step) : Type 0 where
  pub withdraws : Withdraws (address_of looper item) (Some e) steps
  pub refused : EntersLast looper e seen withdraws.refused

-- an ask, by its answer
abbrev pub AskedSo : ℕ → ItemData → Result Reply SendFault → List PortEntry → List Step → Type 0
AskedSo looper item (Ok reply) seen steps = Answered looper item reply steps
AskedSo looper item (Err fault.TooLong) seen steps = steps ≡ []
AskedSo looper item (Err fault.NoMemory) seen steps = AsksInVain (address_of looper item) item steps
AskedSo looper item (Err fault.BadPort) seen steps = RefusedBy looper item event.Refused seen steps
AskedSo looper item (Err fault.Spent) seen steps = RefusedBy looper item event.Spent seen steps
AskedSo looper item (Err fault.WouldBlock) seen steps = ⊥

-- ---- edits
-- one entry at that desk, at that place
pub record EditsAt (looper : ℕ) (edit : Edit) (came : EditAnswer) (place : ℕ) (steps : List Step) : Type 0 where
  pub noted : Noted EntryData
  pub event_is : noted.entry.plain.event ≡ desk_event.Edited edit came
  pub place_is : place ≡ length noted.before
  pub is : steps ≡ at_desk looper noted ∷ []

abbrev pub EditedSo : ℕ → Edit → Edited → List Step → Type 0
EditedSo looper edit (edited.Entered came place) steps = EditsAt looper edit came place steps
EditedSo looper edit edited.NoMemory steps = steps ≡ []
