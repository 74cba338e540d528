-- The turns of a looper's thread: it takes items, dispatches them, and ends.
use Rattle.std.specs.Prelude.{◌≡◌, ◌⊎◌, ℕ, ◌==◌, ◌&&◌, not, Bool, true, false, List, [], ◌∷◌, ◌++◌, Any, length, codes, Option, None, Some}
use Rattle.std.specs.List.{list_any}
use Rattle.ak_base.specs.declared.app_word.AppWord.{AppWord}
use Rattle.ak_message.specs.declared.address.Address.{Address}
use Rattle.ak_message.specs.Message.{MessageData}
use Rattle.ak_flatten.specs.declared.item.Duty.{Duty}
use Rattle.ak_flatten.specs.declared.item.Duty.TheVariants as duty
use Rattle.ak_flatten.specs.declared.item.Taken.{Taken}
use Rattle.ak_flatten.specs.Item.{ItemData}
use Rattle.ak_flatten.specs.Spelling.{spelling}
use Rattle.ak_turn.specs.declared.clock.Clock.{Clock}
use Rattle.ak_turn.specs.Noted.{Noted}
use Rattle.ak_roster.specs.declared.entry.RosterEntry.{RosterEntry}
use Rattle.ak_roster.specs.declared.entry.RosterEvent.TheVariants as roster_event
use Rattle.ak_roster.specs.declared.entry.LaunchOutcome.TheVariants as launch
use Rattle.ak_roster.specs.Machine.{runs_team, state_of}
use Rattle.ak_port.specs.declared.port_entry.PortEntry.{PortEntry}
use Rattle.ak_port.specs.declared.port_entry.PortEvent.{PortEvent}
use Rattle.ak_port.specs.declared.port_entry.PortEvent.TheVariants as event
use Rattle.ak_port.specs.PortMachine as ports
use Rattle.ak_port.specs.TakerLaws.{handed_at}
use Rattle.ak_port.specs.declared.reply_entry.ReplyEntry.{ReplyEntry}
use Rattle.ak_port.specs.declared.reply_entry.ReplyEvent.TheVariants as slot_event
use Rattle.ak_port.specs.Reply.{IsSettled, none_text}
use Rattle.ak_route.specs.Matching.{is_code}
use Rattle.ak_action.specs.declared.answer.Answer.{Answer}
use Rattle.ak_action.specs.declared.answer.Want.{Want}
use Rattle.ak_action.specs.declared.state.DeskState.{DeskState}
use Rattle.ak_desk.specs.Desk.{HasDispatched, HasGivenUp}
use Rattle.ak_desk.specs.Entry.{EntryData}
use Rattle.ak_desk.specs.Replies.{none_reply}
use Rattle.ak_desk.specs.declared.made.Made.{Made}
use Rattle.ak_diary.specs.Looper.{LooperFacts, closed_by, in_hand, is_closing, is_own}
use Rattle.ak_diary.specs.Step.{Step, at_roster, at_book, at_port, at_desk, saw_roster, saw_book, saw_port, lacked}
use Rattle.ak_diary.specs.Wants.{EntersPort, LacksDoor, Through, ServesAll, sent_item}

-- ---- it takes: the oldest item of its port, where each one that it took before is dispatched, and nothing calls for its closing
pub record IsTake (l : LooperFacts) (so_far turn : List Step) : Type 0 where
  pub rested : in_hand l so_far ≡ []
  pub works : is_closing so_far ≡ false
  pub noted : Noted PortEntry
  pub event_is : noted.entry.event ≡ event.Took 1
  pub is : turn ≡ at_port l.number noted ∷ []

-- ---- what is owed is paid
-- the message that stands for no reply
abbrev pub is_no_reply : MessageData → Bool
is_no_reply m = is_code m.what (codes "NONE") && (length m.fields == 0)

-- a slot is filled with that text, or found to be filled or cancelled
pub record EntersFill (n : ℕ) (text : List ℕ) (steps : List Step) : Type 0 where
  pub noted : Noted ReplyEntry
  pub event_is : noted.entry.event ≡ slot_event.Filled n text
  pub is : steps ≡ at_book noted ∷ []

pub record FindsSettled (n : ℕ) (steps : List Step) : Type 0 where
  pub seen : List ReplyEntry
  pub settled : IsSettled n seen
  pub is : steps ≡ saw_book seen ∷ []

abbrev pub Fills : ℕ → List ℕ → List Step → Type 0
Fills n text steps = EntersFill n text steps ⊎ FindsSettled n steps

-- what may come of a reply that is posted back without waiting
pub data IsPosted (item : ItemData) : PortEvent → Type 0 where
  written : (position : ℕ) → IsPosted item (event.Written position item)
  full : IsPosted item event.Full
  refused : IsPosted item event.Refused
  spent : IsPosted item event.Spent

pub record PostsBack (looper : ℕ) (item : ItemData) (steps : List Step) : Type 0 where
  pub what : PortEvent
  pub may : IsPosted item what
  pub enters : EntersPort looper what steps

-- it is posted, or memory is wanting for that
abbrev pub TriesBack : ℕ → ItemData → List Step → Type 0
TriesBack looper item steps = PostsBack looper item steps ⊎ (steps ≡ lacked ∷ [])

-- no memory for the door
pub record LacksWay (l : LooperFacts) (so_far : List Step) (looper : ℕ) (steps : List Step) : Type 0 where
  pub door : LacksDoor l so_far looper []
  pub is : steps ≡ lacked ∷ []

module _ (l : LooperFacts) (so_far : List Step) where
  -- nothing is posted where the reply is none
  abbrev pub RepliesBack : Bool → Address → MessageData → List Step → Type 0
  RepliesBack true to m steps = steps ≡ []
  RepliesBack false to m steps = LacksWay l so_far to.looper steps ⊎ Through l so_far to.looper (TriesBack to.looper (sent_item l.team to duty.None m)) steps

  -- the reply goes where the item's duty says; of an item that was sent on nothing is owed here
  abbrev pub Pays : Duty → Option MessageData → List Step → Type 0
  Pays owed None steps = steps ≡ []
  Pays duty.None (Some m) steps = steps ≡ []
  Pays (duty.Slot n) (Some m) steps = Fills n (spelling m) steps
  Pays (duty.Back to) (Some m) steps = RepliesBack (is_no_reply m) to m steps

-- ---- the text of a reply
abbrev pub is_told : Option MessageData → Bool
is_told None = false
is_told (Some m) = not (is_no_reply m)

-- a text is made of a reply that is owed and is not none
abbrev pub wants_text : Duty → Option MessageData → Bool
wants_text duty.None reply = false
wants_text (duty.Slot n) reply = is_told reply
wants_text (duty.Back to) reply = is_told reply

-- memory was there for the text, and the reply is that; or it was not, and the reply is none
pub data WritesText (owed : Duty) (reply : Option MessageData) : Option MessageData → List Step → Type 0 where
  with_memory : WritesText owed reply reply []
  without : wants_text owed reply ≡ true → WritesText owed reply (Some none_reply) (lacked ∷ [])

-- ---- a closing
pub record EntersShut (looper : ℕ) (steps : List Step) : Type 0 where
  pub noted : Noted PortEntry
  pub event_is : noted.entry.event ≡ event.Shut
  pub is : steps ≡ at_port looper noted ∷ []

pub record FindsShut (looper : ℕ) (steps : List Step) : Type 0 where
  pub seen : List PortEntry
  pub shut : (ports.state_of seen).shut ≡ true
  pub is : steps ≡ saw_port looper seen ∷ []

-- the port is shut, or found to be
abbrev pub Shuts : ℕ → List Step → Type 0
Shuts looper steps = EntersShut looper steps ⊎ FindsShut looper steps

abbrev pub ShutsAll : List ℕ → List Step → Type 0
ShutsAll [] steps = steps ≡ []
ShutsAll (looper ∷ loopers) steps = (first : List Step) × (rest : List Step) × (Shuts looper first) × (ShutsAll loopers rest) × (steps ≡ first ++ rest)

module _ (l : LooperFacts) where
  pub record EntersGone (steps : List Step) : Type 0 where
    pub noted : Noted RosterEntry
    pub event_is : noted.entry.event ≡ roster_event.Gone l.team
    pub is : steps ≡ at_roster noted ∷ []

  -- the launch of its team
  abbrev pub StartsIt : RosterEntry → Type 0
  StartsIt entry = (word : AppWord) × (place : ℕ) × (entry.event ≡ roster_event.Launch word (launch.Started place l.team l.first))

  -- where the team was started, and no longer runs
  pub record FindsGone (steps : List Step) : Type 0 where
    pub seen : List RosterEntry
    pub started : Any StartsIt seen
    pub gone : list_any (runs_team l.team) (state_of l.heads seen).running ≡ false
    pub is : steps ≡ saw_roster seen ∷ []

  -- an application's own looper enters that its team no longer runs; another looper does not
  abbrev pub LeavesRoster : Bool → List Step → Type 0
  LeavesRoster true steps = EntersGone steps ⊎ FindsGone steps
  LeavesRoster false steps = steps ≡ []

  -- then the ports are shut, in order
  pub record Closes (steps : List Step) : Type 0 where
    pub gone : List Step
    pub leaves : LeavesRoster (is_own l) gone
    pub shut : List Step
    pub shuts : ShutsAll (closed_by l) shut
    pub is : steps ≡ gone ++ shut

  -- where the closing is due
  abbrev pub ClosesIf : Bool → List Step → Type 0
  ClosesIf true steps = Closes steps
  ClosesIf false steps = steps ≡ []

-- ---- it dispatches
-- the entry of a dispatch that asked for these and heard these, or of one that was given up, at a desk with that opening; and what it came to
pub record Carried (opening : DeskState) (taken : Taken) (asked : List Want) (heard : List Answer) (made : Made) (n : Noted EntryData) : Type 0 where
  pub clock : Clock
  pub later : Clock
  pub before : DeskState
  pub after : DeskState
  pub dispatched : HasDispatched clock later taken.position taken.item asked heard opening before after n.before (n.before ++ n.entry ∷ []) made

pub record GivenUp (opening : DeskState) (taken : Taken) (asked : List Want) (heard : List Answer) (made : Made) (n : Noted EntryData) : Type 0 where
  pub clock : Clock
  pub later : Clock
  pub state : DeskState
  pub given_up : HasGivenUp clock later taken.position opening state n.before (n.before ++ n.entry ∷ []) made
  pub asked_none : asked ≡ []
  pub heard_none : heard ≡ []

abbrev pub ComesTo : DeskState → Taken → List Want → List Answer → Made → Noted EntryData → Type 0
ComesTo opening taken asked heard made n = Carried opening taken asked heard made n ⊎ GivenUp opening taken asked heard made n

abbrev pub lacked_if : Bool → List Step
lacked_if true = lacked ∷ []
lacked_if false = []

-- behind the entry: the text of the reply, the closing where it is due, then what is owed is paid; and the closing that only the want of memory for that calls for
pub record Settles (l : LooperFacts) (so_far : List Step) (owed : Duty) (reply : Option MessageData) (steps : List Step) : Type 0 where
  pub told : Option MessageData
  pub text : List Step
  pub writes : WritesText owed reply told text
  pub closing : List Step
  pub closes : ClosesIf l (is_closing (so_far ++ text)) closing
  pub paying : List Step
  pub pays : Pays l (so_far ++ text ++ closing) owed told paying
  pub late : List Step
  pub closes_late : ClosesIf l (not (is_closing (so_far ++ text)) && is_closing paying) late
  pub is : steps ≡ text ++ closing ++ paying ++ late

-- the oldest item in hand: what it asks for is done; its entry at the desk; and what follows
pub record IsDispatch (l : LooperFacts) (so_far turn : List Step) : Type 0 where
  pub taken : Taken
  pub others : List Taken
  pub oldest : in_hand l so_far ≡ taken ∷ others
  pub works : is_closing so_far ≡ false
  pub asked : List Want
  pub heard : List Answer
  pub served : List Step
  pub serves : ServesAll l so_far taken.item asked heard served
  pub made : Made
  pub noted : Noted EntryData
  pub comes : ComesTo l.desk taken asked heard made noted
  pub settled : List Step
  pub settles : Settles l (so_far ++ served ++ at_desk l.number noted ∷ lacked_if made.no_memory) taken.item.duty made.reply settled
  pub is : turn ≡ served ++ at_desk l.number noted ∷ lacked_if made.no_memory ++ settled

-- ---- it ends
-- each item that is left gets no reply: its slot is filled so
abbrev pub LeavesOne : Duty → List Step → Type 0
LeavesOne duty.None steps = steps ≡ []
LeavesOne (duty.Slot n) steps = Fills n none_text steps
LeavesOne (duty.Back to) steps = steps ≡ []

abbrev pub LeavesAll : List Taken → List Step → Type 0
LeavesAll [] steps = steps ≡ []
LeavesAll (taken ∷ left) steps = (first : List Step) × (rest : List Step) × (LeavesOne taken.item.duty first) × (LeavesAll left rest) × (steps ≡ first ++ rest)

-- what is left: what it had in hand, then the rest of its port
abbrev pub left_at : LooperFacts → List Step → Noted PortEntry → List Taken
left_at l so_far n = in_hand l so_far ++ handed_at n

-- the rest is taken, where something called for its closing, or it has nothing in hand
pub record IsEnd (l : LooperFacts) (so_far turn : List Step) : Type 0 where
  pub may : (is_closing so_far ≡ true) ⊎ (in_hand l so_far ≡ [])
  pub noted : Noted PortEntry
  pub count : ℕ
  pub event_is : noted.entry.event ≡ event.Rest count
  pub answers : List Step
  pub leaves : LeavesAll (left_at l so_far noted) answers
  pub is : turn ≡ at_port l.number noted ∷ answers
