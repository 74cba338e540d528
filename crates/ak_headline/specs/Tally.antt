-- How often a thread's diary speaks of a slot.
use Rattle.std.specs.Prelude.{◌≡◌, ◌+◌, ◌≤◌, ◌==◌, ◌&&◌, ◌⊎◌, not, ℕ, Bool, true, false, List, [], ◌∷◌, ◌++◌, Any, Contains, filter, length, Option, None, Some, slice_get}
use Rattle.ak_base.specs.declared.error.KitError.TheVariants as error
use Rattle.ak_message.specs.Message.{MessageData}
use Rattle.ak_flatten.specs.declared.item.Taken.{Taken}
use Rattle.ak_flatten.specs.Item.{ItemData}
use Rattle.ak_flatten.specs.Spelling.{spelling}
use Rattle.ak_turn.specs.Noted.{Noted}
use Rattle.ak_port.specs.declared.port_entry.PortEvent.{PortEvent}
use Rattle.ak_port.specs.declared.port_entry.PortEvent.TheVariants as event
use Rattle.ak_port.specs.declared.reply_entry.ReplyEntry.{ReplyEntry}
use Rattle.ak_port.specs.declared.reply_entry.ReplyEvent.{ReplyEvent}
use Rattle.ak_port.specs.declared.reply_entry.ReplyEvent.TheVariants as slot
use Rattle.ak_port.specs.Reply.{IsSettled, fills, none_text, takes}
use Rattle.ak_action.specs.declared.answer.AnswerWord.{AnswerWord}
use Rattle.ak_action.specs.declared.answer.AnswerWord.TheVariants as word
use Rattle.ak_action.specs.declared.state.DeskState.{DeskState}
use Rattle.ak_desk.specs.declared.entry.DeskEvent.{DeskEvent}
use Rattle.ak_desk.specs.declared.entry.DeskEvent.TheVariants as desk_event
use Rattle.ak_desk.specs.declared.entry.EntryRoute.{EntryRoute}
use Rattle.ak_desk.specs.declared.entry.EntryRoute.TheVariants as went
use Rattle.ak_desk.specs.Dispatch.{fitting}
use Rattle.ak_desk.specs.Entry.{EntryData}
use Rattle.ak_desk.specs.Machine.{IsHistory, StepReplies, dispatches, paired}
use Rattle.ak_diary.specs.Step.{Step, at_book, at_port, book_entries, book_sights, ran_short}
use Rattle.ak_headline.specs.Answers.{cancels, opens, owes}

module _ {X : Type 0} where
  abbrev pub how_many : (X → Bool) → List X → ℕ
  how_many test xs = length (filter test xs)

-- ---- steps
-- an entry at the reply book that does so
abbrev pub at_slot : (ReplyEvent → Bool) → Step → Bool
at_slot does (at_book n) = does n.entry.event
at_slot does _ = false

-- an item was written that owes the slot, at any port, or at that of that looper
abbrev pub writes_owing : ℕ → PortEvent → Bool
writes_owing n (event.Written position item) = owes n item.duty
writes_owing n _ = false

abbrev pub sends : ℕ → Step → Bool
sends n (at_port looper noted) = writes_owing n noted.entry.event
sends n _ = false

abbrev pub sends_to : ℕ → ℕ → Step → Bool
sends_to n looper (at_port number noted) = (number == looper) && writes_owing n noted.entry.event
sends_to n looper _ = false

-- ---- what became of the items that owe the slot
abbrev pub owes_event : ℕ → DeskEvent → Option ItemData → Bool
owes_event n (desk_event.Dispatched position route words quit) (Some item) = owes n item.duty
owes_event n _ _ = false

abbrev pub owes_entry : ℕ → EntryData → Bool
owes_entry n entry = owes_event n entry.plain.event entry.item

-- the message of a dispatch, by its position among those that the port accepted: so it is told of one that was given up, too
abbrev pub owes_listed : ℕ → Option Taken → Bool
owes_listed n (Some taken) = owes n taken.item.duty
owes_listed n None = false

abbrev pub owes_at : ℕ → List Taken → DeskEvent → Bool
owes_at n accepted (desk_event.Dispatched position route words quit) = owes_listed n (slice_get accepted position)
owes_at n accepted (desk_event.Edited edit answer) = false

-- a dispatch whose message was sent on, and written
abbrev pub sent_on_event : DeskEvent → Bool
sent_on_event (desk_event.Dispatched position (went.Forward looper) (word.Error error.Ok ∷ []) quit) = true
sent_on_event _ = false

abbrev pub was_sent_on : EntryData → Bool
was_sent_on entry = sent_on_event entry.plain.event

-- how many of those that owe the slot were sent on, how many were not, where the port accepted these, and how many of these items owe it
abbrev pub sent_on_in : ℕ → List EntryData → ℕ
sent_on_in n entries = how_many (λ (entry : EntryData). owes_entry n entry && was_sent_on entry) entries

abbrev pub kept_in : ℕ → List Taken → List EntryData → ℕ
kept_in n accepted entries = how_many (λ (entry : EntryData). owes_at n accepted entry.plain.event && not (was_sent_on entry)) entries

abbrev pub owing_in : ℕ → List Taken → ℕ
owing_in n items = how_many (λ (taken : Taken). owes n taken.item.duty) items

-- ---- a diary, of a thread whose port accepted these items, whose desk has these entries, and which left those items
-- Each ask that was written opened the slot, and took from it. Each item that owes the slot was sent on, or its slot was filled or found to
-- be settled
pub record Tally (n : ℕ) (accepted : List Taken) (entries : List EntryData) (left : List Taken) (steps : List Step) : Type 0 where
  pub asks : ℕ
  pub sent : how_many (sends n) steps ≡ asks + sent_on_in n entries
  pub opened : asks + how_many (at_slot (cancels n)) steps ≤ how_many (at_slot (opens n)) steps
  pub took : how_many (at_slot (takes n)) steps ≡ asks
  pub filled : how_many (at_slot (fills n)) steps ≤ kept_in n accepted entries + owing_in n left
  pub settled : (how_many (at_slot (fills n)) steps ≡ kept_in n accepted entries + owing_in n left) ⊎ Any (IsSettled n) (book_sights steps)

-- where the thread takes nothing from the slot, it writes no item that owes it to a looper up to that number
abbrev pub SendsUp : ℕ → ℕ → List EntryData → List Step → Type 0
SendsUp n number entries steps = (looper : ℕ) → looper ≤ number → how_many (at_slot (takes n)) steps ≡ 0 → how_many (sends_to n looper) steps ≡ 0

-- ---- what was paid
-- The slot was filled with that text for a dispatch, or for an item that was left. Where there was no memory for the text of a dispatch, none
-- was dispatched behind it; others' edits may stand there
pub record PaidForDispatch (opening : DeskState) (n : ℕ) (accepted : List Taken) (entries : List EntryData) (short : Bool) (text : List ℕ) : Type 0 where
  pub before : List EntryData
  pub entry : EntryData
  pub behind : List EntryData
  pub there : entries ≡ before ++ entry ∷ behind
  pub owed : owes_at n accepted entry.plain.event ≡ true
  pub kept : was_sent_on entry ≡ false
  pub position : ℕ
  pub route : EntryRoute
  pub words : List AnswerWord
  pub quit : Bool
  pub event_is : entry.plain.event ≡ desk_event.Dispatched position route words quit
  pub item : ItemData
  pub item_is : entry.item ≡ paired route item
  pub item_at : slice_get accepted position ≡ Some (record { position = position; item = item })
  pub meets : DeskState
  pub leads_there : IsHistory opening before meets
  pub reply : MessageData
  pub replies : StepReplies meets route (Some item) words (Some reply)
  pub text_is : (text ≡ spelling (fitting reply)) ⊎ ((short ≡ true) × (dispatches behind ≡ 0) × (text ≡ none_text))

pub record PaidForLeft (n : ℕ) (left : List Taken) (text : List ℕ) : Type 0 where
  pub taken : Taken
  pub there : Contains left taken
  pub owed : owes n taken.item.duty ≡ true
  pub text_is : text ≡ none_text

-- each slot that the thread filled it filled so
abbrev pub PaysByRule : DeskState → List Taken → List EntryData → List Taken → List Step → Type 0
PaysByRule opening accepted entries left steps =
    (n : ℕ) (text : List ℕ) (x : Noted ReplyEntry) → Contains (book_entries steps) x → x.entry.event ≡ slot.Filled n text
    → PaidForDispatch opening n accepted entries (ran_short steps) text ⊎ PaidForLeft n left text
