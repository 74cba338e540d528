-- A world: all objects of a run at one moment, and what each looper's thread has to do. Each entry makes one world of another.
use Rattle.std.specs.Prelude.{◌≡◌, ◌≢◌, ◌<◌, ◌⊎◌, ◌==◌, ℕ, Bool, true, List, [], ◌∷◌, ◌++◌, length, map, take, All, Contains, Option, None, Some, slice_get, if◌then◌else◌}
use Rattle.ak_base.specs.Thread.{looper_thread}
use Rattle.ak_message.specs.Message.{MessageData}
use Rattle.ak_flatten.specs.declared.item.Duty.{Duty}
use Rattle.ak_flatten.specs.declared.item.Duty.TheVariants as duty
use Rattle.ak_flatten.specs.declared.item.Taken.{Taken}
use Rattle.ak_flatten.specs.Item.{ItemData}
use Rattle.ak_flatten.specs.Spelling.{spelling}
use Rattle.ak_roster.specs.declared.head.AppHead.{AppHead}
use Rattle.ak_roster.specs.declared.entry.RosterEvent.{RosterEvent}
use Rattle.ak_roster.specs.Machine as roster
use Rattle.ak_roster.specs.Machine.{RosterState}
use Rattle.ak_port.specs.declared.port_entry.PortEntry.{PortEntry}
use Rattle.ak_port.specs.declared.port_entry.PortEvent.{PortEvent}
use Rattle.ak_port.specs.declared.port_entry.PortEvent.TheVariants as port_event
use Rattle.ak_port.specs.declared.reply_entry.ReplyEvent.{ReplyEvent}
use Rattle.ak_port.specs.declared.reply_entry.ReplyEvent.TheVariants as slot
use Rattle.ak_port.specs.PortMachine as ports
use Rattle.ak_port.specs.PortMachine.{PortState, pending_items, unmade}
use Rattle.ak_port.specs.Reply as books
use Rattle.ak_port.specs.Reply.{SlotData, none_text, open_stage, slot_of}
use Rattle.ak_action.specs.declared.answer.AnswerWord.{AnswerWord}
use Rattle.ak_action.specs.declared.state.DeskState.{DeskState}
use Rattle.ak_desk.specs.declared.entry.DeskEvent.{DeskEvent}
use Rattle.ak_desk.specs.declared.entry.DeskEvent.TheVariants as desk_event
use Rattle.ak_desk.specs.declared.entry.EntryRoute.{EntryRoute}
use Rattle.ak_desk.specs.declared.entry.EntryRoute.TheVariants as went
use Rattle.ak_desk.specs.Dispatch.{fitting, ran_out}
use Rattle.ak_desk.specs.Entry.{EntryData}
use Rattle.ak_desk.specs.Machine.{DeskStep, StepReplies, counted, paired}
use Rattle.ak_diary.specs.Wants.{forwarded_item}
use Rattle.ak_journal.specs.declared.entry.Entry.{Entry}
use Rattle.ak_journal.specs.declared.entry.Event.{Event}
use Rattle.ak_journal.specs.declared.entry.Event.TheVariants as event
use Rattle.ak_journal.specs.declared.entry.ObjectName.{ObjectName}
use Rattle.ak_journal.specs.declared.entry.ObjectName.TheVariants as object
use Rattle.ak_world.specs.Merged.{thread_of}

-- ---- the objects
-- a desk: its handlers and all that goes with them, and how many messages were dispatched there
pub record DeskPlace : Type 0 where
  pub state : DeskState
  pub dispatched : ℕ

-- the roster; the slots of the reply book; and by the numbers of the loopers their ports and their desks
pub record Objects : Type 0 where
  pub roster : RosterState
  pub slots : List SlotData
  pub ports : ℕ → PortState
  pub desks : ℕ → DeskPlace

-- at that number there is now this; the others are as they were
abbrev pub put : {T : Type 0} → ℕ → T → (ℕ → T) → ℕ → T
put number thing things = λ (other : ℕ). if other == number then thing else things other

-- nothing is launched; each desk is as it will be opened
abbrev pub first_objects : (ℕ → DeskState) → Objects
first_objects openings =
    record {
      roster = roster.start;
      slots = [];
      ports = λ (looper : ℕ). unmade;
      desks = λ (looper : ℕ). record { state = openings looper; dispatched = 0 };
    }

-- ---- a step of one object, by its own rules
pub record RosterMove (heads : List AppHead) (o : Objects) (by : ℕ) (e : RosterEvent) (o' : Objects) : Type 0 where
  pub legal : roster.IsLegal heads o.roster by e
  pub after : o' ≡ record o { roster = roster.after heads o.roster by e }

pub record BookMove (o : Objects) (by : ℕ) (e : ReplyEvent) (o' : Objects) : Type 0 where
  pub step : books.BookStep o.slots by e
  pub after : o' ≡ record o { slots = books.changed o.slots by e }

-- the taker of a looper's port is the looper's own thread
pub record PortMove (o : Objects) (looper : ℕ) (entry : PortEntry) (o' : Objects) : Type 0 where
  pub step : ports.PortStep (looper_thread looper) (o.ports looper) entry
  pub after : o' ≡ record o { ports = put looper (ports.state_after (o.ports looper) entry.event) o.ports }

-- a dispatch is of the item that the port accepted at its position, and is paired with it; with none where there was no memory to begin with
-- it. What an edit is paired with, the desk's own rules say
abbrev pub IsItem : PortState → DeskEvent → Option ItemData → Type 0
IsItem port (desk_event.Dispatched position route words quit) item =
    (accepted : ItemData) × (slice_get port.written position ≡ Some accepted) × (item ≡ paired route accepted)
IsItem port (desk_event.Edited edit answer) item = Unit {0}

-- the desk is that of a looper that was started; a dispatch is by the looper's own thread, and of its item; an edit is of none
pub record DeskMove (o : Objects) (looper : ℕ) (entry : EntryData) (o' : Objects) : Type 0 where
  pub started : looper < length o.roster.loopers
  pub item_is : IsItem (o.ports looper) entry.plain.event entry.item
  pub leaves : DeskState
  pub step : DeskStep looper (o.desks looper).dispatched (o.desks looper).state entry leaves
  pub after : o' ≡ record o { desks = put looper (record { state = leaves; dispatched = counted (o.desks looper).dispatched entry.plain.event }) o.desks }

module _ (heads : List AppHead) where
  -- at the object of that name; an event is of the kind that its object's are
  abbrev pub Moves : Objects → Entry → Option ItemData → ObjectName → Event → Objects → Type 0
  Moves o entry item object.Roster (event.Roster e) o' = RosterMove heads o (thread_of entry) e o'
  Moves o entry item object.Book (event.Book e) o' = BookMove o (thread_of entry) e o'
  Moves o entry item (object.Port looper) (event.Port e) o' = PortMove o looper (record { stamp = entry.stamp; by = entry.by; event = e }) o'
  Moves o entry item (object.Desk looper) (event.Desk e) o' = DeskMove o looper (record { plain = record { stamp = entry.stamp; by = entry.by; event = e }; item = item }) o'
  Moves o entry item _ _ o' = ⊥

-- the thread is no looper's, or that of a looper that was started
abbrev pub MayAct : Objects → ℕ → Type 0
MayAct o thread = (looper : ℕ) → thread ≡ looper_thread looper → looper < length o.roster.loopers

-- an entry, and what it is paired with where it is one of a desk
pub record ObjectStep (heads : List AppHead) (o : Objects) (entry : Entry) (item : Option ItemData) (o' : Objects) : Type 0 where
  pub may : MayAct o (thread_of entry)
  pub moves : Moves heads o entry item entry.object entry.event o'

-- entry after entry
abbrev pub ObjectsRun : List AppHead → Objects → List Entry → Objects → Type 0
ObjectsRun heads o [] o' = o' ≡ o
ObjectsRun heads o (entry ∷ entries) o' = (item : Option ItemData) × (between : Objects) × ObjectStep heads o entry item between × ObjectsRun heads between entries o'

-- ---- what a looper's thread has to do
-- an item that it took, and what is still owed for it
pub record Held : Type 0 where
  pub taken : Taken
  pub owing : Duty

-- all that the item's sender is owed
abbrev pub held : Taken → Held
held taken = record { taken = taken; owing = taken.item.duty }

-- nothing any more
abbrev pub settled : Held → Held
settled one = record one { owing = duty.None }

-- a slot that is to be filled for a dispatch, and the reply that goes into it; none where nothing is replied: then nobody can fill it
pub record Owed : Type 0 where
  pub slot : ℕ
  pub reply : Option MessageData

-- what it took and did not dispatch, the oldest first; what it left, once it took the rest of its port; and what it owes for its last
-- dispatch. The duty to post a reply back is no part of it, since no entry asks for it
pub record Work : Type 0 where
  pub hand : List Held
  pub left : List Held
  pub owed : Option Owed

abbrev pub no_work : Work
no_work = record { hand = []; left = []; owed = None }

-- a dispatch for which a slot is still owed is to fill it with its reply; nothing is owed where it was sent on with the slot
abbrev pub owed_for : Duty → Option MessageData → Option Owed
owed_for (duty.Slot n) reply = Some (record { slot = n; reply = reply })
owed_for duty.None reply = None
owed_for (duty.Back to) reply = None

-- ---- the world: the objects, and by the numbers of the loopers what they have to do
pub record World : Type 0 where
  pub objects : Objects
  pub works : ℕ → Work

abbrev pub first_world : (ℕ → DeskState) → World
first_world openings = record { objects = first_objects openings; works = λ (looper : ℕ). no_work }

-- no port ever accepted an item that owes the slot
abbrev pub IsUnwritten : World → ℕ → Type 0
IsUnwritten w n = (looper : ℕ) → All (λ (item : ItemData). item.duty ≢ duty.Slot n) (w.objects.ports looper).written

-- ---- an entry at the reply book
-- the looper fills the slot that it owes, with the reply; or, where it is among those that found no memory, with the one that stands for none
pub record PaysOwed (short : List ℕ) (w : World) (by n : ℕ) (text : List ℕ) (works : ℕ → Work) : Type 0 where
  pub looper : ℕ
  pub is_by : by ≡ looper_thread looper
  pub reply : MessageData
  pub owes : (w.works looper).owed ≡ Some (record { slot = n; reply = Some reply })
  pub text_is : (text ≡ spelling (fitting reply)) ⊎ (Contains short looper × (text ≡ none_text))
  pub owes_no_more : works ≡ put looper (record (w.works looper) { owed = None }) w.works

-- it took the rest of its port, and fills the slot of an item that it left, with the reply that stands for none
pub record PaysLeft (w : World) (by n : ℕ) (text : List ℕ) (works : ℕ → Work) : Type 0 where
  pub looper : ℕ
  pub is_by : by ≡ looper_thread looper
  pub rested : (w.objects.ports looper).rested ≡ true
  pub before : List Held
  pub one : Held
  pub behind : List Held
  pub left : (w.works looper).left ≡ before ++ one ∷ behind
  pub owes : one.owing ≡ duty.Slot n
  pub text_is : text ≡ none_text
  pub owes_no_more : works ≡ put looper (record (w.works looper) { left = before ++ settled one ∷ behind }) w.works

abbrev pub WorkAtBook : List ℕ → World → ℕ → ReplyEvent → (ℕ → Work) → Type 0
WorkAtBook short w by (slot.Opened n) works = works ≡ w.works
WorkAtBook short w by (slot.Filled n text) works = PaysOwed short w by n text works ⊎ PaysLeft w by n text works
-- only a slot that is in no item is cancelled
WorkAtBook short w by (slot.Cancelled n) works = IsUnwritten w n × (works ≡ w.works)
WorkAtBook short w by (slot.Taken n) works = works ≡ w.works

-- ---- an entry at the port of a looper
-- an ask: the thread opened the slot, which is open and in no item yet
pub record Asks (w : World) (by n : ℕ) (works : ℕ → Work) : Type 0 where
  pub opened : slice_get w.objects.slots n ≡ Some (slot_of by open_stage)
  pub unwritten : IsUnwritten w n
  pub same : works ≡ w.works

-- The first item in a looper's hand is sent on, and what is owed for it goes with it: it is the same but for its target, and with more of
-- its specifiers popped. It is not asked here whether the desk sends it so: an edit that came before may have a later stamp
pub record SendsOn (w : World) (by n : ℕ) (item : ItemData) (works : ℕ → Work) : Type 0 where
  pub looper : ℕ
  pub is_by : by ≡ looper_thread looper
  pub first : Held
  pub others : List Held
  pub oldest : (w.works looper).hand ≡ first ∷ others
  pub owes : first.owing ≡ duty.Slot n
  pub popped : ℕ
  pub more : first.taken.item.popped < popped
  pub item_is : item ≡ forwarded_item first.taken.item popped
  pub owes_no_more : works ≡ put looper (record (w.works looper) { hand = settled first ∷ others }) w.works

abbrev pub Writes : World → ℕ → ItemData → Duty → (ℕ → Work) → Type 0
Writes w by item (duty.Slot n) works = Asks w by n works ⊎ SendsOn w by n item works
Writes w by item duty.None works = works ≡ w.works
Writes w by item (duty.Back to) works = works ≡ w.works

-- so many of the oldest pending items
abbrev pub handed : World → ℕ → ℕ → List Held
handed w looper count = map held (take count (pending_items (w.objects.ports looper)))

abbrev pub WorkAtPort : World → ℕ → ℕ → PortEvent → (ℕ → Work) → Type 0
WorkAtPort w by looper (port_event.Made capacity life) works = works ≡ w.works
WorkAtPort w by looper (port_event.Written position item) works = Writes w by item item.duty works
WorkAtPort w by looper port_event.Full works = works ≡ w.works
WorkAtPort w by looper port_event.Refused works = works ≡ w.works
WorkAtPort w by looper port_event.Spent works = works ≡ w.works
-- what is taken goes to the end of the hand
WorkAtPort w by looper (port_event.Took count) works =
    works ≡ put looper (record (w.works looper) { hand = (w.works looper).hand ++ handed w looper count }) w.works
-- what is in hand, and then the rest of the port, is left
WorkAtPort w by looper (port_event.Rest count) works =
    works ≡ put looper (record (w.works looper) { hand = []; left = (w.works looper).hand ++ handed w looper count }) w.works
WorkAtPort w by looper port_event.Shut works = works ≡ w.works

-- ---- an entry at the desk of a looper
-- the entry tells that memory ran out: there was none to begin with it, or its last word says so
abbrev pub lacks_memory : EntryRoute → List AnswerWord → Bool
lacks_memory went.NoMemory words = true
lacks_memory _ words = ran_out words

-- The looper dispatches the first item in its hand, while it owes no slot; what is still owed for it, it owes then, with the reply that the
-- rules make, or with none where they make none. Where the entry tells that memory ran out, the looper is among those that found none
pub record Dispatches (short : List ℕ) (w : World) (looper position : ℕ) (route : EntryRoute) (words : List AnswerWord) (item : Option ItemData) (works : ℕ → Work) : Type 0 where
  pub first : Held
  pub others : List Held
  pub oldest : (w.works looper).hand ≡ first ∷ others
  pub position_is : position ≡ first.taken.position
  pub item_is : item ≡ paired route first.taken.item
  pub owes_none : (w.works looper).owed ≡ None
  pub reply : Option MessageData
  pub replies : StepReplies (w.objects.desks looper).state route item words reply
  pub lacks : lacks_memory route words ≡ true → Contains short looper
  pub owes : works ≡ put looper (record (w.works looper) { hand = others; owed = owed_for first.owing reply }) w.works

abbrev pub WorkAtDesk : List ℕ → World → ℕ → DeskEvent → Option ItemData → (ℕ → Work) → Type 0
WorkAtDesk short w looper (desk_event.Dispatched position route words quit) item works = Dispatches short w looper position route words item works
WorkAtDesk short w looper (desk_event.Edited edit answer) item works = works ≡ w.works

-- ---- an entry
module _ (short : List ℕ) where
  abbrev pub Works : World → ℕ → Option ItemData → ObjectName → Event → (ℕ → Work) → Type 0
  Works w by item object.Roster (event.Roster e) works = works ≡ w.works
  Works w by item object.Book (event.Book e) works = WorkAtBook short w by e works
  Works w by item (object.Port looper) (event.Port e) works = WorkAtPort w by looper e works
  Works w by item (object.Desk looper) (event.Desk e) works = WorkAtDesk short w looper e item works
  Works w by item _ _ works = ⊥

-- it is a step of its object, and what the loopers have to do allows it, and goes on so
pub record WorldStep (heads : List AppHead) (short : List ℕ) (w : World) (entry : Entry) (w' : World) : Type 0 where
  pub item : Option ItemData
  pub object : ObjectStep heads w.objects entry item w'.objects
  pub works : Works short w (thread_of entry) item entry.object entry.event w'.works

-- entry after entry, from one world to another
abbrev pub WorldRun : List AppHead → List ℕ → World → List Entry → World → Type 0
WorldRun heads short w [] w' = w' ≡ w
WorldRun heads short w (entry ∷ entries) w' = (between : World) × WorldStep heads short w entry between × WorldRun heads short between entries w'
