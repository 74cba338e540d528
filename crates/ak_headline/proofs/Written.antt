-- The items that a port accepted, and what its looper did with them.
use Rattle.std.proofs.Common.{◌≡◌, ℕ, zero, suc, ◌+◌, ◌&&◌, not, Bool, true, false, List, [], ◌∷◌, ◌++◌, length, Option, Some, None, slice_get, refl, sym, ap, ◌∙◌, ⊎_elim, arith}
use Rattle.ak_flatten.specs.declared.item.Taken.{Taken}
use Rattle.ak_port.specs.declared.port_entry.PortEntry.{PortEntry}
use Rattle.ak_port.specs.declared.port_entry.PortEvent.{PortEvent}
use Rattle.ak_port.specs.declared.port_entry.PortEvent.TheVariants as event
use Rattle.ak_port.specs.PortMachine.{written_in, written_item}
use Rattle.ak_action.specs.declared.answer.AnswerWord.{AnswerWord}
use Rattle.ak_desk.specs.declared.entry.DeskEvent.{DeskEvent}
use Rattle.ak_desk.specs.declared.entry.DeskEvent.TheVariants as desk_event
use Rattle.ak_desk.specs.declared.entry.EntryRoute.{EntryRoute}
use Rattle.ak_desk.specs.Entry.{EntryData}
use Rattle.ak_diary.specs.Laws.{dispatched_item, dispatched_items, listed}
use Rattle.ak_diary.proofs.Surface.{IsNumbered, get_parts}
use Rattle.ak_headline.specs.Answers.{owes}
use Rattle.ak_headline.specs.Tally.{how_many, kept_in, owes_at, owes_listed, owing_in, sent_on_in, was_sent_on, writes_owing}
use Rattle.ak_headline.proofs.Counts.{how_many-append, how_many-cons, how_many_parts, one_if}

-- ---- places in lists
module _ {X : Type 0} where
  -- what stands in the second of two lists
  pub get_second : (xs ys : List X) (j : ℕ) → slice_get (xs ++ ys) (length xs + j) ≡ slice_get ys j
  get_second [] ys j = ap (λ (k : ℕ). slice_get ys k) (omega arith)
  get_second (x ∷ xs) ys j =
      let on : suc (length xs) + j ≡ suc (length xs + j) = omega arith in
      ap (λ (k : ℕ). slice_get (x ∷ (xs ++ ys)) k) on ∙ get_second xs ys j

-- ---- how many owe a slot
module _ (n : ℕ) where
  abbrev owes_it : Taken → Bool
  owes_it taken = owes n taken.item.duty

  writes_one : (e : PortEvent) (items : List Taken) → owing_in n (written_item e ++ items) ≡ one_if (writes_owing n e) + owing_in n items
  writes_one (event.Made capacity life) items = omega arith
  writes_one (event.Written position item) items = how_many-cons owes_it (record { position = position; item = item }) items
  writes_one event.Full items = omega arith
  writes_one event.Refused items = omega arith
  writes_one event.Spent items = omega arith
  writes_one (event.Took k) items = omega arith
  writes_one (event.Rest k) items = omega arith
  writes_one event.Shut items = omega arith

  -- the entries of a port tell those that it accepted
  pub written_owing : (port : List PortEntry) → how_many (λ (entry : PortEntry). writes_owing n entry.event) port ≡ owing_in n (written_in port)
  written_owing [] = refl
  written_owing (x ∷ port) = omega (arith, how_many-cons (λ (entry : PortEntry). writes_owing n entry.event) x port, writes_one x.event (written_in port), written_owing port)

  listed_one : (o : Option Taken) (items : List Taken) → owing_in n (listed o ++ items) ≡ one_if (owes_listed n o) + owing_in n items
  listed_one None items = omega arith
  listed_one (Some taken) items = how_many-cons owes_it taken items

  dispatches_one : (accepted : List Taken) (e : DeskEvent) (items : List Taken) → owing_in n (dispatched_item accepted e ++ items) ≡ one_if (owes_at n accepted e) + owing_in n items
  dispatches_one accepted (desk_event.Dispatched position route words quit) items = listed_one (slice_get accepted position) items
  dispatches_one accepted (desk_event.Edited edit answer) items = omega arith

  abbrev owes_place : List Taken → EntryData → Bool
  owes_place accepted entry = owes_at n accepted entry.plain.event

  dispatched_owing : (accepted : List Taken) (desk : List EntryData) → owing_in n (dispatched_items accepted desk) ≡ how_many (owes_place accepted) desk
  dispatched_owing accepted [] = refl
  dispatched_owing accepted (x ∷ desk) =
      omega (arith, how_many-cons (owes_place accepted) x desk, dispatches_one accepted x.plain.event (dispatched_items accepted desk), dispatched_owing accepted desk)

  two_ways : (a b : Bool) → one_if a ≡ one_if (a && b) + one_if (a && not b)
  two_ways true true = omega arith
  two_ways true false = omega arith
  two_ways false b = omega arith

  -- of those each was sent on, kept or left
  pub accepted_owing : (port : List PortEntry) (desk : List EntryData) (left : List Taken) → written_in port ≡ dispatched_items (written_in port) desk ++ left
      → how_many (λ (entry : EntryData). owes_at n (written_in port) entry.plain.event && was_sent_on entry) desk ≡ sent_on_in n desk
      → how_many (λ (entry : PortEntry). writes_owing n entry.event) port ≡ sent_on_in n desk + (kept_in n (written_in port) desk + owing_in n left)
  accepted_owing port desk left is sent =
      let all : owing_in n (written_in port) ≡ owing_in n (dispatched_items (written_in port) desk ++ left) = ap (owing_in n) is in
      omega (
        arith,
        written_owing port,
        all,
        sent,
        how_many-append owes_it (dispatched_items (written_in port) desk) left,
        dispatched_owing (written_in port) desk,
        how_many_parts (owes_place (written_in port)) (λ (entry : EntryData). owes_at n (written_in port) entry.plain.event && was_sent_on entry)
            (λ (entry : EntryData). owes_at n (written_in port) entry.plain.event && not (was_sent_on entry))
            (λ entry. two_ways (owes_place (written_in port) entry) (was_sent_on entry)) desk,
      )

-- ---- the entry that dispatched an item
pub record DispatchedAt (desk : List EntryData) (t : Taken) : Type 0 where
  pub before : List EntryData
  pub entry : EntryData
  pub behind : List EntryData
  pub there : desk ≡ before ++ entry ∷ behind
  pub route : EntryRoute
  pub words : List AnswerWord
  pub quit : Bool
  pub event_is : entry.plain.event ≡ desk_event.Dispatched t.position route words quit

behind_one : (x : EntryData) (desk : List EntryData) (t : Taken) → DispatchedAt desk t → DispatchedAt (x ∷ desk) t
behind_one x desk t at = record {
  before = x ∷ at.before;
  entry = at.entry;
  behind = at.behind;
  there = ap (λ l. x ∷ l) at.there;
  route = at.route;
  words = at.words;
  quit = at.quit;
  event_is = at.event_is;
}

listed_get : (o : Option Taken) (i : ℕ) (t : Taken) → slice_get (listed o) i ≡ Some t → o ≡ Some t
listed_get None i t at = absurd (cc at)
listed_get (Some taken) zero t at = at
listed_get (Some taken) (suc i) t at = absurd (cc at)

-- where a port accepted these, each at its position
module _ (accepted : List Taken) (numbered : IsNumbered accepted) where
  of_first : (x : EntryData) (desk : List EntryData) (e : DeskEvent) (i : ℕ) (t : Taken) → x.plain.event ≡ e → slice_get (dispatched_item accepted e) i ≡ Some t → DispatchedAt (x ∷ desk) t
  of_first x desk (desk_event.Dispatched position route words quit) i t is at =
      let place : t.position ≡ position = numbered position t (listed_get (slice_get accepted position) i t at) in
      record {
        before = [];
        entry = x;
        behind = desk;
        there = refl;
        route = route;
        words = words;
        quit = quit;
        event_is = is ∙ ap (λ (k : ℕ). desk_event.Dispatched k route words quit) (sym place);
      }
  of_first x desk (desk_event.Edited edit answer) i t is at = absurd (cc at)

  pub dispatched_at : (desk : List EntryData) (i : ℕ) (t : Taken) → slice_get (dispatched_items accepted desk) i ≡ Some t → DispatchedAt desk t
  dispatched_at [] i t at = absurd (cc at)
  dispatched_at (x ∷ desk) i t at =
      ⊎_elim (λ (first : slice_get (dispatched_item accepted x.plain.event) i ≡ Some t). of_first x desk x.plain.event i t refl first)
      (λ (later : (j : ℕ) × (i ≡ length (dispatched_item accepted x.plain.event) + j) × (slice_get (dispatched_items accepted desk) j ≡ Some t)).
      behind_one x desk t (dispatched_at desk later.0 t later.2))
      (get_parts (dispatched_item accepted x.plain.event) (dispatched_items accepted desk) i t at)
