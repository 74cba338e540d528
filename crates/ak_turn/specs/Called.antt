-- What a call has done at a lock, in the same words for every object. Each word is told who made an entry (`by`), what stamp it has
-- (`stamp`), and how an entry is made of a stamp, a thread and an event (`entry_of`).
use Rattle.std.specs.Prelude.{◌≡◌, ℕ, ◌+◌, max, List, [], ◌∷◌, ◌++◌, length, Option, None, Some}
use Rattle.ak_base.specs.declared.thread.ThreadId.{ThreadId}
use Rattle.ak_turn.specs.declared.clock.Clock.{Clock}
use Rattle.ak_turn.specs.Entries.{StartsWith, last_stamp_of, made_by}
use Rattle.ak_turn.specs.Seats.{SeatData, HasSeen, HasCalled, at_leisure, entered_by}

-- ---- a new entry
module _ {L : Type 0} where
  -- the stamp that is due: one more than the greater of the clock's time and the last stamp of the list
  abbrev pub stamp_due : (L → ℕ) → Clock → List L → ℕ
  stamp_due stamp clock entries = 1 + max clock.time (last_stamp_of stamp entries)

  -- the clock after it
  abbrev pub clock_after : (L → ℕ) → Clock → List L → Clock
  clock_after stamp clock entries = record clock { time = stamp_due stamp clock entries }

module _ {L E : Type 0} where
  -- the new entry of a list with that event, by the thread of that clock
  abbrev pub entry_now : (L → ℕ) → (ℕ → ThreadId → E → L) → Clock → List L → E → L
  entry_now stamp entry_of clock entries event = entry_of (stamp_due stamp clock entries) clock.thread event

-- ---- a call of its own
module _ {O L : Type 0} where
  -- the seat's thread made no entry
  pub record HasLooked (by : L → ℕ) (clock clock' : Clock) (seat seat' : SeatData O L) : Type 0 where
    pub seen : HasSeen by seat seat'
    pub clocked : clock' ≡ clock

  -- what no call changes of the seat
  pub record KeepsSeat (seat seat' : SeatData O L) : Type 0 where
    pub lock : seat'.lock ≡ seat.lock
    pub opening : seat'.opening ≡ seat.opening
    pub thread : seat'.thread ≡ seat.thread
    pub joined : seat'.joined ≡ seat.joined
    pub turn : seat'.turn ≡ seat.turn
    pub names : seat'.names ≡ seat.names

module _ {O L E : Type 0} where
  -- the seat's thread made one entry with that event: it is the last of the seat's front, and goes on from all that was there before
  pub record HasEntered (by stamp : L → ℕ) (entry_of : ℕ → ThreadId → E → L) (clock clock' : Clock) (event : E) (seat seat' : SeatData O L) : Type 0 where
    pub before : List L
    pub front : seat'.front ≡ before ++ entry_now stamp entry_of clock before event ∷ []
    pub called : HasCalled by (entry_now stamp entry_of clock before event) seat seat'
    pub clocked : clock' ≡ clock_after stamp clock before

  -- the one or the other
  abbrev pub HasAnswered : (L → ℕ) → (L → ℕ) → (ℕ → ThreadId → E → L) → Option E → Clock → Clock → SeatData O L → SeatData O L → Type 0
  HasAnswered by stamp entry_of (Some event) clock clock' seat seat' = HasEntered by stamp entry_of clock clock' event seat seat'
  HasAnswered by stamp entry_of None clock clock' seat seat' = HasLooked by clock clock' seat seat'

  -- in the turn that the seat had its thread made one entry with that event, or none; the turn was passed on
  abbrev pub HasAnsweredAtTurn : (L → ℕ) → (ℕ → ThreadId → E → L) → Option E → Clock → Clock → SeatData O L → SeatData O L → Type 0
  HasAnsweredAtTurn stamp entry_of (Some event) clock clock' seat seat' =
      (seat' ≡ at_leisure (entered_by seat (entry_now stamp entry_of clock seat.front event))) × (clock' ≡ clock_after stamp clock seat.front)
  HasAnsweredAtTurn stamp entry_of None clock clock' seat seat' = (seat' ≡ at_leisure seat) × (clock' ≡ clock)

-- ---- calls one after another
module _ {O L : Type 0} where
  -- From one seat to a later one its thread made just these entries, in order: all that it made goes on by them, and the places of its
  -- own have grown by as many
  pub record Makes (by : L → ℕ) (entries : List L) (seat seat' : SeatData O L) : Type 0 where
    pub keeps : KeepsSeat seat seat'
    pub goes_on : StartsWith seat'.front seat.front
    pub made : made_by by seat.thread seat'.front ≡ made_by by seat.thread seat.front ++ entries
    pub own : length seat'.own ≡ length seat.own + length entries

-- ---- a book with the turn
module _ {B L E : Type 0} where
  -- The book has one entry more, or stays as it was. `list` tells its list, and `grows old entry new` that it has gone on by an entry
  abbrev pub HasAdded : (L → ℕ) → (ℕ → ThreadId → E → L) → (B → List L) → (B → L → B → Type 0) → Option E → Clock → Clock → B → B → Type 0
  HasAdded stamp entry_of list grows (Some event) clock clock' old new =
      grows old (entry_now stamp entry_of clock (list old) event) new × (clock' ≡ clock_after stamp clock (list old))
  HasAdded stamp entry_of list grows None clock clock' old new = (new ≡ old) × (clock' ≡ clock)
