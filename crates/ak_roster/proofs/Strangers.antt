-- What a seat at the roster's lock knows of its own entries tells whether its thread is a stranger.
use Rattle.std.proofs.Common.{◌≡◌, ◌≢◌, ℕ, Bool, true, false, List, [], ◌∷◌, refl, sym, ap, subst, Option, Some, None, All}
use Rattle.std.specs.Prelude.{IfSome, if◌then◌else◌, slice_get, ◌==◌}
use Rattle.std.specs.List.{filter_map, cons_option}
use Rattle.std.proofs.lemmas.List.Elements.{All-cons, All-head, All-map, All-nil, All-tail}
use Rattle.ak_turn.specs.Entries.{made_by}
use Rattle.ak_turn.specs.Seats.{SeatData, KnowsWhole}
use Rattle.ak_turn.proofs.Surface.{own_is_made}
use Rattle.ak_roster.specs.declared.head.AppHead.{AppHead}
use Rattle.ak_roster.specs.declared.entry.RosterEntry.{RosterEntry}
use Rattle.ak_roster.specs.declared.entry.EntryWithObjects.{EntryWithObjects}
use Rattle.ak_roster.specs.declared.entry.RosterEvent.TheVariants as event
use Rattle.ak_roster.specs.Machine.{IsHistory, state_of}
use Rattle.ak_roster.specs.Roster.{IsStranger, plain_entries}
use Rattle.ak_roster.specs.Laws.{IsNoneOfFour, IsNotOfDoor}
use Rattle.ak_roster.proofs.Holders.{strangers_are_told}

-- what holds of what stands at the places holds of all that is taken from there
module _ {A : Type 0} (P : A → Type 0) where
  all_first : (o : Option A) (ys : List A) → IfSome o P → All P ys → All P (cons_option o ys)
  all_first None ys here rest = rest
  all_first (Some x) ys here rest = All-cons P x ys here rest

  all_at : (xs : List A) (ks : List ℕ) → All (λ k. IfSome (slice_get xs k) P) ks → All P (filter_map (slice_get xs) ks)
  all_at xs [] h = All-nil P
  all_at xs (k ∷ ks) h =
      all_first (slice_get xs k) (filter_map (slice_get xs) ks) (All-head (λ i. IfSome (slice_get xs i) P) k ks h) (all_at xs ks (All-tail (λ i. IfSome (slice_get xs i) P) k ks h))

module _ {O : Type 0} where
  plain_first : (mine : Bool) (entry : EntryWithObjects O) (plain : List RosterEntry) (entries : List (EntryWithObjects O)) → plain ≡ plain_entries entries
      → (if mine then entry.plain ∷ plain else plain) ≡ plain_entries (if mine then entry ∷ entries else entries)
  plain_first true entry plain entries same = ap (λ (es : List RosterEntry). entry.plain ∷ es) same
  plain_first false entry plain entries same = same

  pub entries_tell_plain : (thread : ℕ) (entries : List (EntryWithObjects O)) → made_by (λ (entry : RosterEntry). entry.by.0) thread (plain_entries entries) ≡ plain_entries (made_by (λ (entry : EntryWithObjects O). entry.plain.by.0) thread entries)
  entries_tell_plain thread [] = refl
  entries_tell_plain thread (entry ∷ entries) =
      plain_first (entry.plain.by.0 == thread) entry (made_by (λ (entry : RosterEntry). entry.by.0) thread (plain_entries entries)) (made_by (λ (l : EntryWithObjects O). l.plain.by.0) thread entries) (entries_tell_plain thread entries)

  pub seats_are_strangers : (heads : List AppHead) (seat : SeatData (List AppHead) (EntryWithObjects O)) (number : ℕ) → IsHistory heads (plain_entries seat.front) → KnowsWhole (λ (entry : EntryWithObjects O). entry.plain.by.0) seat
      → IfSome (slice_get (state_of heads (plain_entries seat.front)).loopers number) (IsNoneOfFour seat.thread number) → All (IsNotOfDoor seat.front number) seat.own
      → IsStranger seat.thread number (slice_get (state_of heads (plain_entries seat.front)).loopers number)
  seats_are_strangers heads seat number history whole four own =
      let made : All (λ (entry : EntryWithObjects O). entry.plain.event ≢ event.Door number) (made_by (λ (entry : EntryWithObjects O). entry.plain.by.0) seat.thread seat.front) =
      subst (λ (entries : List (EntryWithObjects O)). All (λ (entry : EntryWithObjects O). entry.plain.event ≢ event.Door number) entries) (own_is_made (λ (entry : EntryWithObjects O). entry.plain.by.0) seat whole)
      (all_at (λ (entry : EntryWithObjects O). entry.plain.event ≢ event.Door number) seat.front seat.own own) in
      strangers_are_told heads (plain_entries seat.front) seat.thread number history four
      (subst (λ (entries : List RosterEntry). All (λ (entry : RosterEntry). entry.event ≢ event.Door number) entries) (sym (entries_tell_plain seat.thread seat.front))
      (All-map (λ (entry : RosterEntry). entry.event ≢ event.Door number) (λ (entry : EntryWithObjects O). entry.plain) (made_by (λ (entry : EntryWithObjects O). entry.plain.by.0) seat.thread seat.front) made))
