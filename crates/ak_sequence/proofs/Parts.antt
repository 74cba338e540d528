-- What the parts of these proofs hand on to one another.
use Rattle.std.specs.Prelude.{◌≡◌, ℕ, List, [], ◌∷◌, Option, None, Some}
use Rattle.ak_base.specs.Thread.{looper_thread}
use Rattle.ak_message.specs.Message.{MessageData}
use Rattle.ak_flatten.specs.declared.item.Duty.TheVariants as duty
use Rattle.ak_flatten.specs.declared.item.Taken.{Taken}
use Rattle.ak_flatten.specs.Item.{ItemData}
use Rattle.ak_turn.specs.Noted.{Noted}
use Rattle.ak_roster.specs.declared.head.AppHead.{AppHead}
use Rattle.ak_action.specs.declared.answer.Answer.{Answer}
use Rattle.ak_action.specs.declared.answer.Want.{Want}
use Rattle.ak_action.specs.declared.state.DeskState.{DeskState}
use Rattle.ak_desk.specs.declared.made.Made.{Made}
use Rattle.ak_desk.specs.Entry.{EntryData}
use Rattle.ak_diary.specs.declared.histories.Histories.{Histories}
use Rattle.ak_diary.specs.Looper.{LooperFacts, thread_of}
use Rattle.ak_diary.specs.Step.{Step, book_sights}
use Rattle.ak_diary.specs.Turns.{ComesTo}
use Rattle.ak_diary.specs.Wants.{ServesAll}
use Rattle.ak_headline.specs.Headline.{MissesNone}
use Rattle.ak_headline.specs.Main.{IsMainDiary, IsSessionDiary}
use Rattle.ak_headline.specs.Run.{HasLooper}
use Rattle.ak_journal.specs.declared.entry.Entry.{Entry}
use Rattle.ak_world.specs.World.{Held, World, WorldStep, held, settled}
use Rattle.ak_sequence.specs.Places.{IsAt, IsSound, Place, in_hand, left_over, owed, pending}
use Rattle.ak_sequence.specs.Worlds.{DispatchesAt, RestsAt, WritesAt, WritesSlot}
use Rattle.ak_sequence.proofs.Doing.{Doing, DoesAll, idle}

-- ---- a dispatch's wants are served
-- it has to do what it had, and there is a reply where the item owes a slot; or the item was sent on, for which nothing is replied
pub data ServedTo (taken : Taken) (others : List Held) (reply : Option MessageData) (d d' : Doing) : Type 0 where
  kept : d' ≡ d → ((n : ℕ) → taken.item.duty ≡ duty.Slot n → (message : MessageData) × (reply ≡ Some message)) → ServedTo taken others reply d d'
  sent_on : reply ≡ None → d' ≡ record d { work = record d.work { hand = settled (held taken) ∷ others } } → ServedTo taken others reply d d'

abbrev pub Serving : Type 0
Serving =
    (short : List ℕ) (openings : ℕ → DeskState) (l : LooperFacts) (so_far : List Step) (taken : Taken) (asked : List Want) (heard : List Answer) (made : Made) (x : Noted EntryData) (served : List Step)
    → ServesAll l so_far taken.item asked heard served → ComesTo l.desk taken asked heard made x → book_sights served ≡ []
    → (others : List Held) (d : Doing) → d.asking ≡ None → d.work.hand ≡ held taken ∷ others
    → (d' : Doing) × DoesAll short openings (thread_of l) d served d' × ServedTo taken others made.reply d d'

-- ---- whole diaries
abbrev pub LoopersDo : Type 0
LoopersDo =
    (heads : List AppHead) (short : List ℕ) (h : Histories) (looper : ℕ) (has : HasLooper heads short h looper) → MissesNone has.steps
    → (openings : ℕ → DeskState) → openings looper ≡ has.facts.desk
    → (d : Doing) × DoesAll short openings (looper_thread looper) idle has.steps d

abbrev pub MainDoes : Type 0
MainDoes = (steps : List Step) → IsMainDiary steps → MissesNone steps → (short : List ℕ) (openings : ℕ → DeskState) (thread : ℕ) → (d : Doing) × DoesAll short openings thread idle steps d

abbrev pub SessionsDo : Type 0
SessionsDo = (steps : List Step) → IsSessionDiary steps → MissesNone steps → (short : List ℕ) (openings : ℕ → DeskState) (thread : ℕ) → (d : Doing) × DoesAll short openings thread idle steps d

-- ---- worlds
-- where a slot is behind an entry, and where it was before
pub data Comes (w : World) (entry : Entry) (n : ℕ) : Place → Type 0 where
  stays : (place : Place) → IsAt w n place → ¬ (WritesSlot n entry) → Comes w entry n place
  was_taken : (looper position : ℕ) → IsAt w n (pending looper position) → ¬ (WritesSlot n entry) → Comes w entry n (in_hand looper position)
  was_left : (looper position : ℕ) → IsAt w n (pending looper position) → RestsAt looper entry → Comes w entry n (left_over looper position)
  was_put_by : (looper position : ℕ) → IsAt w n (in_hand looper position) → RestsAt looper entry → Comes w entry n (left_over looper position)
  was_dispatched : (looper position : ℕ) → IsAt w n (in_hand looper position) → DispatchesAt looper position entry → Comes w entry n (owed looper position)
  was_written : (looper position : ℕ) (item : ItemData) → WritesAt looper position item entry → item.duty ≡ duty.Slot n → Comes w entry n (pending looper position)

abbrev pub PlacesCome : Type 0
PlacesCome =
    (heads : List AppHead) (short : List ℕ) (w : World) (entry : Entry) (w' : World) → WorldStep heads short w entry w' → IsSound w → (n : ℕ) (place : Place) → IsAt w' n place → Comes w entry n place
