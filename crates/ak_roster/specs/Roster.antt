-- What contracts see of the roster's book.
use Rattle.std.specs.Prelude.{◌≡◌, ℕ, suc, List, [], ◌∷◌, ◌++◌, length, map, Contains, Option, None, Some, IfSome, slice_get, slice_set, ◌↔◌}
use Rattle.std.specs.List.{flat_map}
use Rattle.ak_base.specs.Thread.{main_thread}
use Rattle.ak_base.specs.declared.thread.ThreadId.{ThreadId}
use Rattle.ak_turn.specs.declared.clock.Clock.{Clock}
use Rattle.ak_turn.specs.Called as at_lock
use Rattle.ak_turn.specs.Entries.{last_stamp_of}
use Rattle.ak_roster.specs.declared.head.AppHead.{AppHead}
use Rattle.ak_roster.specs.declared.entry.RosterEntry.{RosterEntry}
use Rattle.ak_roster.specs.declared.entry.EntryWithObjects.{EntryWithObjects}
use Rattle.ak_roster.specs.declared.entry.RosterEvent.{RosterEvent}
use Rattle.ak_roster.specs.Heads.{IsHeads}
use Rattle.ak_roster.specs.Told.{told_with}
use Rattle.ak_roster.specs.Machine.{LooperData, RosterState, IsHistory, holders, state_of}

-- the described applications; what was done, of which the entry of a launch that started a team has the objects that its doors told, in
-- the order of the loopers; and the doors that the book keeps, by the loopers' numbers
pub record RosterData (D O : Type 0) : Type 0 where
  pub heads : List AppHead
  pub entries : List (EntryWithObjects O)
  pub doors : List D

module _ {O : Type 0} where
  -- what the journal shows of them
  abbrev pub plain_entries : List (EntryWithObjects O) → List RosterEntry
  plain_entries entries = map (λ entry. entry.plain) entries

  -- the objects of all loopers that were started, by their numbers
  abbrev pub objects_of : List (EntryWithObjects O) → List (Option O)
  objects_of entries = flat_map (λ entry. entry.objects) entries

  abbrev pub stamp_number : EntryWithObjects O → ℕ
  stamp_number entry = entry.plain.stamp

  abbrev pub last_stamp : List (EntryWithObjects O) → ℕ
  last_stamp entries = last_stamp_of stamp_number entries

  -- the entry with that stamp, thread and event, and those objects
  abbrev pub entry_with : List (Option O) → ℕ → ThreadId → RosterEvent → EntryWithObjects O
  entry_with objects stamp by what = record { plain = record { stamp = stamp; by = by; event = what }; objects = objects }

  -- a new entry by that clock
  abbrev pub new_entry : Clock → List (EntryWithObjects O) → RosterEvent → List (Option O) → EntryWithObjects O
  new_entry clock entries what objects = at_lock.entry_now stamp_number (entry_with objects) clock entries what

-- the same threads, in whatever order
abbrev pub AreSame : List ℕ → List ℕ → Type 0
AreSame threads others = (thread : ℕ) → Contains threads thread ↔ Contains others thread

module _ {D : Type 0} (threads : D → Option (List ℕ)) where
  -- a door that tells its threads tells just those, and main has launched its looper
  abbrev pub IsKept : ℕ → D → LooperData → Type 0
  IsKept number door looper = IfSome (threads door) (λ told. AreSame told (holders number looper) × (looper.starter ≡ main_thread))

  -- so is each of the doors of the loopers from that number on
  abbrev pub AreKept : ℕ → List D → List LooperData → Type 0
  AreKept number [] loopers = loopers ≡ []
  AreKept number (door ∷ doors) [] = ⊥
  AreKept number (door ∷ doors) (looper ∷ loopers) = IsKept number door looper × AreKept (suc number) doors loopers

module _ {D O : Type 0} where
  -- the state that its entries leave
  abbrev pub state : RosterData D O → RosterState
  state roster = state_of roster.heads (plain_entries roster.entries)

  -- it keeps one door for each looper that was started
  abbrev pub IsAtRest : RosterData D O → Type 0
  IsAtRest roster = length roster.doors ≡ length (state roster).loopers

-- ---- a call at the book, in the words for every object
module _ {D O : Type 0} where
  -- that entry more, and these doors
  abbrev pub HasOneMore : List D → RosterData D O → EntryWithObjects O → RosterData D O → Type 0
  HasOneMore doors old entry new = new ≡ record { heads = old.heads; entries = old.entries ++ entry ∷ []; doors = doors }

  -- one entry more, with those objects, and these doors; or nothing has changed
  abbrev pub HasAdded : List (Option O) → List D → Option RosterEvent → Clock → Clock → RosterData D O → RosterData D O → Type 0
  HasAdded objects doors what clock later old new =
      at_lock.HasAdded stamp_number (entry_with objects) (λ (r : RosterData D O). r.entries) (HasOneMore doors) what clock later old new

  -- it has one entry more by that clock, which has its stamp then
  abbrev pub Enters : RosterEvent → List (Option O) → List D → RosterData D O → RosterData D O → Clock → Clock → Type 0
  Enters what objects doors old new clock later = HasAdded objects doors (Some what) clock later old new

  -- nothing has changed
  abbrev pub Stays : RosterData D O → RosterData D O → Clock → Clock → Type 0
  Stays old new clock later = HasAdded [] old.doors None clock later old new

-- what is always true of it
pub record IsRoster {D O : Type 0} (object : D → Option O) (threads : D → Option (List ℕ)) (roster : RosterData D O) : Type 0 where
  pub heads : IsHeads roster.heads
  pub history : IsHistory roster.heads (plain_entries roster.entries)
  -- at rest each door tells the object that its looper's launch has
  pub objects : IsAtRest roster → map object roster.doors ≡ objects_of roster.entries
  pub kept : IsAtRest roster → AreKept threads 0 roster.doors (state roster).loopers

-- the thread has no part of what the looper's door leads to, if there is such a looper
abbrev pub IsStranger : ℕ → ℕ → Option LooperData → Type 0
IsStranger thread number None = Unit {0}
IsStranger thread number (Some looper) = ¬ (Contains (holders number looper) thread)

-- a door has given a part to the thread: it tells the same object, and one thread more
pub record GivesPart {D P O : Type 0} (object : D → Option O) (threads : D → Option (List ℕ)) (part_object : P → Option O) (is_for : P → ℕ → Type 0) (part : P) (thread : ℕ) (old new : D) : Type 0 where
  pub object_stays : object new ≡ object old
  pub threads_grow : threads new ≡ told_with (threads old) thread
  pub part_of : part_object part ≡ object old
  pub for_thread : is_for part thread

-- the door at that place has given the part, and the others have stayed
pub record GivesPartAt {D P O : Type 0} (object : D → Option O) (threads : D → Option (List ℕ)) (part_object : P → Option O) (is_for : P → ℕ → Type 0) (place : ℕ) (part : P) (thread : ℕ) (old new : List D) : Type 0 where
  pub before : D
  pub door : D
  pub stands : slice_get old place ≡ Some before
  pub gives : GivesPart object threads part_object is_for part thread before door
  pub doors : new ≡ slice_set old place door
