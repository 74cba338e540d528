-- What new seats know of their list, and what stands at the places of a seat's own.
use Rattle.std.proofs.Common.{◌≡◌, ◌≢◌, ℕ, suc, cond, List, [], ◌∷◌, ◌++◌, length, All, Contains, Some, None, sym, refl, ap, ◌∙◌, arith, append_assoc, length-append, eq-eqb, ne_eqb}
use Rattle.std.specs.Prelude.{Option, IfSome, slice_get}
use Rattle.std.specs.List.{filter_map, cons_option}
use Rattle.std.proofs.lemmas.List.Elements.{All-nil, All-weaker, All-contains, Contains-append_left, Contains-push}
use mathlib.Core.Logic.{dite}
use native.Mathlib.Decide.{ℕ_discrete}
use Rattle.ak_turn.specs.declared.view.Part.{Part}
use Rattle.ak_turn.specs.Entries.{AreByOthers, made_by, places, places_from}
use Rattle.ak_turn.specs.Rule.{IsKnown}
use Rattle.ak_turn.specs.Steps.{IsNewName, names_with}
use Rattle.ak_turn.specs.Seats.{LockId, SeatData, KnowsWhole, first_seat, new_seat, titled_seat}
use Rattle.ak_turn.proofs.Placing.{own_first, other_first, places-others}

-- ---- names with a new one
still_among : (names : Option (List ℕ)) (thread x : ℕ) → IfSome names (λ ns. Contains ns x) → IfSome (names_with names thread) (λ ns. Contains ns x)
still_among None thread x there = tt
still_among (Some ns) thread x there = Contains-append_left ns (thread ∷ []) x there

now_among : (names : Option (List ℕ)) (thread : ℕ) → IsNewName names thread → IfSome (names_with names thread) (λ ns. Contains ns thread)
now_among None thread fresh = absurd fresh
now_among (Some ns) thread fresh = Contains-push ns thread

module _ {L : Type 0} (by : L → ℕ) where
  all_among : (names : Option (List ℕ)) (thread : ℕ) (entries : List L) → IfSome names (λ ns. All (λ entry. Contains ns (by entry)) entries)
      → IfSome (names_with names thread) (λ ns. All (λ entry. Contains ns (by entry)) entries)
  all_among None thread entries all = tt
  all_among (Some ns) thread entries all =
      All-weaker (λ entry. Contains ns (by entry)) (λ entry. Contains (ns ++ thread ∷ []) (by entry)) (λ entry there. Contains-append_left ns (thread ∷ []) (by entry) there) entries all

  -- a list whose entries are by the names has none by a new one
  none_by : (names : Option (List ℕ)) (thread : ℕ) (entries : List L) → IsNewName names thread → IfSome names (λ ns. All (λ entry. Contains ns (by entry)) entries) → AreByOthers by thread entries
  none_by None thread entries fresh all = absurd fresh
  none_by (Some ns) thread entries fresh all =
      All-weaker (λ entry. Contains ns (by entry)) (λ entry. by entry ≢ thread) (λ entry there. All-contains (λ name. name ≢ thread) ns (by entry) fresh there) entries all

-- ---- new seats
module _ {O L : Type 0} (by : L → ℕ) where
  pub first_knows : (lock : LockId) (opening : O) (entries : List L) (thread : ℕ) → All (λ entry. by entry ≡ thread) entries → KnowsWhole by (first_seat lock opening entries (places by thread entries) thread)
  first_knows lock opening entries thread mine = record {
    own = refl;
    joined = All-nil (IsKnown by entries);
    apart = All-nil (λ (part : Part L). thread ≢ part.thread);
    names = All-weaker (λ entry. by entry ≡ thread) (λ entry. Contains (thread ∷ []) (by entry)) (λ entry is. (0, omega arith, sym is)) entries mine;
    named = (0, omega arith, refl);
  }

  new_knows : (names : Option (List ℕ)) (thread : ℕ) (seat : SeatData O L) → KnowsWhole by seat → IsNewName seat.names thread → IfSome names (λ ns. All (λ entry. Contains ns (by entry)) seat.front) → IfSome names (λ ns. Contains ns thread)
      → KnowsWhole by (new_seat thread names seat)
  new_knows names thread seat whole fresh all there = record {
    own = sym (places-others by thread seat.front (none_by by seat.names thread seat.front fresh whole.names));
    joined = All-nil (IsKnown by seat.front);
    apart = All-nil (λ (part : Part L). thread ≢ part.thread);
    names = all;
    named = there;
  }

  titled_knows : (names : Option (List ℕ)) (seat : SeatData O L) → KnowsWhole by seat → IfSome names (λ ns. All (λ entry. Contains ns (by entry)) seat.front) → IfSome names (λ ns. Contains ns seat.thread)
      → KnowsWhole by (titled_seat names seat)
  titled_knows names seat whole all there = record { own = whole.own; joined = whole.joined; apart = whole.apart; names = all; named = there }

  pub split_knows : (seat : SeatData O L) (thread : ℕ) → KnowsWhole by seat → IsNewName seat.names thread → KnowsWhole by (new_seat thread None seat) × KnowsWhole by (titled_seat (names_with seat.names thread) seat)
  split_knows seat thread whole fresh = (
    new_knows None thread seat whole fresh tt tt,
    titled_knows (names_with seat.names thread) seat whole (all_among by seat.names thread seat.front whole.names) (still_among seat.names thread seat.thread whole.named),
  )

  pub split_head_knows : (seat : SeatData O L) (thread : ℕ) → KnowsWhole by seat → IsNewName seat.names thread → KnowsWhole by (new_seat thread (names_with seat.names thread) seat) × KnowsWhole by (titled_seat None seat)
  split_head_knows seat thread whole fresh = (
    new_knows (names_with seat.names thread) thread seat whole fresh (all_among by seat.names thread seat.front whole.names) (now_among seat.names thread fresh),
    titled_knows None seat whole tt tt,
  )

-- ---- what stands at a thread's places is what it made
module _ {L : Type 0} where
  at_seam : (ys xs : List L) (x : L) → slice_get (ys ++ x ∷ xs) (length ys) ≡ Some x
  at_seam [] xs x = refl
  at_seam (y ∷ ys) xs x = at_seam ys xs x

module _ {L : Type 0} (by : L → ℕ) (thread : ℕ) where
  pub made_own : (x : L) (xs : List L) → by x ≡ thread → made_by by thread (x ∷ xs) ≡ x ∷ made_by by thread xs
  made_own x xs e = ap (λ b. cond b (x ∷ made_by by thread xs) (made_by by thread xs)) (eq-eqb (by x) thread e)

  pub made_other : (x : L) (xs : List L) → by x ≢ thread → made_by by thread (x ∷ xs) ≡ made_by by thread xs
  made_other x xs e = ap (λ b. cond b (x ∷ made_by by thread xs) (made_by by thread xs)) (ne_eqb (by x) thread e)

  made_from : (ys xs : List L) → filter_map (slice_get (ys ++ xs)) (places_from by thread (length ys) xs) ≡ made_by by thread xs
  made_from ys [] = refl
  made_from ys (x ∷ xs) =
      let whole : List L = ys ++ x ∷ xs in
      let next : suc (length ys) ≡ length (ys ++ x ∷ []) = omega (arith, length-append ys (x ∷ [])) in
      let rest : filter_map (slice_get (ys ++ x ∷ xs)) (places_from by thread (suc (length ys)) xs) ≡ made_by by thread xs =
      ap (λ (k : ℕ). filter_map (slice_get (ys ++ x ∷ xs)) (places_from by thread k xs)) next
      ∙ ap (λ (l : List L). filter_map (slice_get l) (places_from by thread (length (ys ++ x ∷ [])) xs)) (sym (append_assoc ys (x ∷ []) xs)) ∙ made_from (ys ++ x ∷ []) xs in
      dite (ℕ_discrete (by x) thread)
      (λ e. ap (λ (ks : List ℕ). filter_map (slice_get whole) ks) (own_first by thread (length ys) x xs e)
      ∙ ap (λ (o : Option L). cons_option o (filter_map (slice_get whole) (places_from by thread (suc (length ys)) xs))) (at_seam ys xs x)
      ∙ ap (λ (l : List L). x ∷ l) rest ∙ sym (made_own x xs e))
      (λ e. ap (λ (ks : List ℕ). filter_map (slice_get whole) ks) (other_first by thread (length ys) x xs e) ∙ rest ∙ sym (made_other x xs e))

module _ {O L : Type 0} (by : L → ℕ) where
  pub own_is_made : (seat : SeatData O L) → KnowsWhole by seat → filter_map (slice_get seat.front) seat.own ≡ made_by by seat.thread seat.front
  own_is_made seat whole = ap (λ (ks : List ℕ). filter_map (slice_get seat.front) ks) whole.own ∙ made_from by seat.thread [] seat.front
