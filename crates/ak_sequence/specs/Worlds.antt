-- What holds of every run of worlds, and so of every run that ended.
use Rattle.std.specs.Prelude.{◌≡◌, ◌<◌, ◌⊎◌, ℕ, Bool, true, List, ◌∷◌, ◌++◌, All, Any, Some, slice_get}
use Rattle.ak_base.specs.Thread.{looper_thread}
use Rattle.ak_flatten.specs.declared.item.Duty.TheVariants as duty
use Rattle.ak_flatten.specs.Item.{ItemData}
use Rattle.ak_roster.specs.declared.head.AppHead.{AppHead}
use Rattle.ak_roster.specs.Machine as roster
use Rattle.ak_port.specs.declared.port_entry.PortEvent.TheVariants as port_event
use Rattle.ak_port.specs.declared.reply_entry.ReplyEvent.TheVariants as slot
use Rattle.ak_port.specs.PortMachine.{state_of}
use Rattle.ak_port.specs.Reply.{slots_after}
use Rattle.ak_action.specs.declared.answer.AnswerWord.{AnswerWord}
use Rattle.ak_action.specs.declared.state.DeskState.{DeskState}
use Rattle.ak_desk.specs.declared.entry.DeskEvent.TheVariants as desk_event
use Rattle.ak_desk.specs.declared.entry.EntryRoute.{EntryRoute}
use Rattle.ak_desk.specs.Machine.{Replays, dispatches, paired}
use Rattle.ak_diary.specs.declared.histories.Histories.{Histories}
use Rattle.ak_headline.specs.Run.{IsRunWith, desk_list, port_list}
use Rattle.ak_journal.specs.declared.entry.Entry.{Entry}
use Rattle.ak_journal.specs.declared.entry.Event.TheVariants as event
use Rattle.ak_journal.specs.declared.entry.ObjectName.TheVariants as object
use Rattle.ak_world.specs.Merged.{IsMerged, thread_of}
use Rattle.ak_world.specs.World.{Objects, World, WorldRun, WorldStep, first_world}
use Rattle.ak_sequence.specs.Laws.{AreOpened, HasEachDiary, HasEachHistory}
use Rattle.ak_sequence.specs.Places.{IsSound}

-- ---- of a run, the merged list is a run of worlds, from that in which nothing is launched
-- the objects are as the lists of the run leave them: the state of a desk is that to which its list leads from its opening
pub record AreLeft (heads : List AppHead) (openings : ℕ → DeskState) (h : Histories) (o : Objects) : Type 0 where
  pub roster : o.roster ≡ roster.state_of heads h.roster.items
  pub slots : o.slots ≡ slots_after h.book
  pub ports : (looper : ℕ) → o.ports looper ≡ state_of (port_list h looper)
  pub desks : (looper : ℕ) → Replays looper 0 (openings looper) (desk_list h looper) (o.desks looper).state × ((o.desks looper).dispatched ≡ dispatches (desk_list h looper))

abbrev pub MergedRunsWorlds : Type 0
MergedRunsWorlds =
    (sessions : ℕ) (heads : List AppHead) (short : List ℕ) (h : Histories) → IsRunWith sessions heads short h
    → (entries : List Entry) → IsMerged h entries → (openings : ℕ → DeskState) → AreOpened h openings
    → (last : World) × AreLeft heads openings h last.objects × WorldRun heads short (first_world openings) entries last

-- ---- what an entry is
-- the port of that looper accepted that item, at that position
pub record WritesAt (looper position : ℕ) (item : ItemData) (entry : Entry) : Type 0 where
  pub at : entry.object ≡ object.Port looper
  pub is : entry.event ≡ event.Port (port_event.Written position item)

-- some port accepted an item that owes the slot
pub record WritesSlot (n : ℕ) (entry : Entry) : Type 0 where
  pub looper : ℕ
  pub position : ℕ
  pub item : ItemData
  pub writes : WritesAt looper position item entry
  pub owes : item.duty ≡ duty.Slot n

pub record DispatchesAt (looper position : ℕ) (entry : Entry) : Type 0 where
  pub at : entry.object ≡ object.Desk looper
  pub route : EntryRoute
  pub words : List AnswerWord
  pub quit : Bool
  pub is : entry.event ≡ event.Desk (desk_event.Dispatched position route words quit)

pub record ShutsAt (looper : ℕ) (entry : Entry) : Type 0 where
  pub at : entry.object ≡ object.Port looper
  pub is : entry.event ≡ event.Port port_event.Shut

pub record RestsAt (looper : ℕ) (entry : Entry) : Type 0 where
  pub at : entry.object ≡ object.Port looper
  pub count : ℕ
  pub is : entry.event ≡ event.Port (port_event.Rest count)

pub record FillsSlot (n : ℕ) (entry : Entry) : Type 0 where
  pub at : entry.object ≡ object.Book
  pub text : List ℕ
  pub is : entry.event ≡ event.Book (slot.Filled n text)

pub record TakesSlot (n : ℕ) (entry : Entry) : Type 0 where
  pub at : entry.object ≡ object.Book
  pub is : entry.event ≡ event.Book (slot.Taken n)

-- ---- the laws, of a list of entries by which worlds go on from where nothing is launched
abbrev pub OfWorlds : (List Entry → Type 0) → Type 0
OfWorlds Law = (heads : List AppHead) (short : List ℕ) (openings : ℕ → DeskState) (entries : List Entry) (last : World) → WorldRun heads short (first_world openings) entries last → Law entries

-- at each moment the world is sound: so it is behind the whole list, and each beginning of such a list is such a list
abbrev pub WorldsAreSound : Type 0
WorldsAreSound = (heads : List AppHead) (short : List ℕ) (openings : ℕ → DeskState) (entries : List Entry) (last : World) → WorldRun heads short (first_world openings) entries last → IsSound last

-- and so it is step by step: the world in which nothing is launched is sound, and of a sound world each entry makes a sound one, whether or
-- not a run comes to it
abbrev pub FirstIsSound : Type 0
FirstIsSound = (openings : ℕ → DeskState) → IsSound (first_world openings)

abbrev pub StepsKeepSound : Type 0
StepsKeepSound = (heads : List AppHead) (short : List ℕ) (w : World) (entry : Entry) (w' : World) → WorldStep heads short w entry w' → IsSound w → IsSound w'

-- of a sound world an entry makes one world alone
abbrev pub StepIsOne : Type 0
StepIsOne =
    (heads : List AppHead) (short : List ℕ) (w : World) (entry : Entry) (a b : World) → IsSound w → WorldStep heads short w entry a → WorldStep heads short w entry b → a ≡ b

-- so from where nothing is launched a list of entries leads to one world alone
abbrev pub WorldIsOne : Type 0
WorldIsOne =
    (heads : List AppHead) (short : List ℕ) (openings : ℕ → DeskState) (entries : List Entry) (a b : World)
    → WorldRun heads short (first_world openings) entries a → WorldRun heads short (first_world openings) entries b → a ≡ b

-- a port that is shut stays shut
abbrev pub ShutStaysShut : Type 0
ShutStaysShut =
    (heads : List AppHead) (short : List ℕ) (w w' : World) (entry : Entry) → WorldStep heads short w entry w'
    → (looper : ℕ) → (w.objects.ports looper).shut ≡ true → (w'.objects.ports looper).shut ≡ true

-- nothing is dispatched before it was written
abbrev pub IsDispatchedAfterWritten : List Entry → Type 0
IsDispatchedAfterWritten entries =
    (before : List Entry) (entry : Entry) (behind : List Entry) → entries ≡ before ++ entry ∷ behind
    → (looper position : ℕ) → DispatchesAt looper position entry → (item : ItemData) × Any (WritesAt looper position item) before

-- and what is dispatched is the item that the port accepted at that position, before; the step is paired with it, or with none where the
-- dispatch was given up
abbrev pub EachIsOfItsItem : Type 0
EachIsOfItsItem =
    (heads : List AppHead) (short : List ℕ) (openings : ℕ → DeskState) (before : List Entry) (w : World) → WorldRun heads short (first_world openings) before w
    → (entry : Entry) (w' : World) (step : WorldStep heads short w entry w') (looper position : ℕ) (at : DispatchesAt looper position entry)
    → (item : ItemData) × (step.item ≡ paired at.route item) × (slice_get (w.objects.ports looper).written position ≡ Some item) × Any (WritesAt looper position item) before

-- nothing is taken from a slot before it was filled
abbrev pub IsTakenAfterFilled : List Entry → Type 0
IsTakenAfterFilled entries =
    (before : List Entry) (entry : Entry) (behind : List Entry) → entries ≡ before ++ entry ∷ behind
    → (n : ℕ) → TakesSlot n entry → Any (FillsSlot n) before

-- A slot is filled by the looper whose port accepted the last item that owes it, and behind the dispatch of that item, or behind the entry that
-- took the rest of that port, where the item is never dispatched
pub record FillsBehind (n : ℕ) (before : List Entry) (entry : Entry) (behind : List Entry) : Type 0 where
  pub looper : ℕ
  pub position : ℕ
  pub item : ItemData
  pub earlier : List Entry
  pub write : Entry
  pub between : List Entry
  pub there : before ≡ earlier ++ write ∷ between
  pub writes : WritesAt looper position item write
  pub owes : item.duty ≡ duty.Slot n
  pub last : All (λ (e : Entry). ¬ (WritesSlot n e)) (between ++ entry ∷ behind)
  pub by : thread_of entry ≡ looper_thread looper
  pub due : Any (DispatchesAt looper position) between ⊎ (Any (RestsAt looper) between × All (λ (e : Entry). ¬ (DispatchesAt looper position e)) (before ++ entry ∷ behind))

abbrev pub IsFilledBehindTheLast : List Entry → Type 0
IsFilledBehindTheLast entries =
    (before : List Entry) (entry : Entry) (behind : List Entry) → entries ≡ before ++ entry ∷ behind
    → (n : ℕ) → FillsSlot n entry → FillsBehind n before entry behind

-- what a port accepts first has the lesser position
abbrev pub IsWrittenInOrder : List Entry → Type 0
IsWrittenInOrder entries =
    (before : List Entry) (entry : Entry) (between : List Entry) (later : Entry) (behind : List Entry) → entries ≡ before ++ entry ∷ between ++ later ∷ behind
    → (looper position place : ℕ) (item other : ItemData) → WritesAt looper position item entry → WritesAt looper place other later → position < place

-- and is dispatched first: before an item is, each one of a lesser position was
abbrev pub IsDispatchedInOrder : List Entry → Type 0
IsDispatchedInOrder entries =
    (before : List Entry) (entry : Entry) (behind : List Entry) → entries ≡ before ++ entry ∷ behind
    → (looper position : ℕ) → DispatchesAt looper position entry
    → ((place : ℕ) → place < position → Any (DispatchesAt looper place) before) × All (λ (e : Entry). (place : ℕ) → DispatchesAt looper place e → position < place) behind

-- nothing is accepted behind the entry that shuts the port
abbrev pub IsNoneWrittenWhenShut : List Entry → Type 0
IsNoneWrittenWhenShut entries =
    (before : List Entry) (entry : Entry) (behind : List Entry) → entries ≡ before ++ entry ∷ behind
    → (looper : ℕ) → ShutsAt looper entry → All (λ (e : Entry). (position : ℕ) (item : ItemData) → ¬ (WritesAt looper position item e)) behind

-- nothing is dispatched behind the entry that takes the rest of the port: what was not dispatched until then is left
abbrev pub IsNoneDispatchedBehindTheRest : List Entry → Type 0
IsNoneDispatchedBehindTheRest entries =
    (before : List Entry) (entry : Entry) (behind : List Entry) → entries ≡ before ++ entry ∷ behind
    → (looper : ℕ) → RestsAt looper entry → All (λ (e : Entry). (position : ℕ) → ¬ (DispatchesAt looper position e)) behind

-- ---- a run as one sequence
-- This is the list of all entries of the run. Of each object and of each thread it has just what is theirs, in order. From where nothing is
-- launched, with each desk as it was opened, it leads from world to world, to one in which the objects are as the run left them; and what the laws
-- say of such lists holds of it
pub record IsSequence (sessions : ℕ) (heads : List AppHead) (short : List ℕ) (h : Histories) (run : IsRunWith sessions heads short h) (entries : List Entry) : Type 0 where
  pub merged : IsMerged h entries
  pub histories : HasEachHistory h entries
  pub diaries : HasEachDiary sessions heads short h run entries
  pub openings : ℕ → DeskState
  pub opened : AreOpened h openings
  pub last : World
  pub left : AreLeft heads openings h last.objects
  pub worlds : WorldRun heads short (first_world openings) entries last
  pub sound : IsSound last
  pub written_first : IsDispatchedAfterWritten entries
  pub filled_first : IsTakenAfterFilled entries
  pub filled_behind : IsFilledBehindTheLast entries
  pub written_in_order : IsWrittenInOrder entries
  pub dispatched_in_order : IsDispatchedInOrder entries
  pub none_when_shut : IsNoneWrittenWhenShut entries
  pub none_behind_the_rest : IsNoneDispatchedBehindTheRest entries

abbrev pub RunsAreSequences : Type 0
RunsAreSequences =
    (sessions : ℕ) (heads : List AppHead) (short : List ℕ) (h : Histories) (run : IsRunWith sessions heads short h)
    → (entries : List Entry) × IsSequence sessions heads short h run entries
