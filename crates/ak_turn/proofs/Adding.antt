-- A seat with the turn counts a new entry of its own.
use Rattle.std.proofs.Common.{◌≡◌, ◌≢◌, ℕ, ◌+◌, ◌%◌, ◌^◌, true, List, [], ◌∷◌, ◌++◌, length, get_or, set, Contains, Some, None, sym, ap, ◌∙◌, subst, length-append}
use Rattle.std.specs.Prelude.{Option}
use Rattle.std.proofs.lemmas.List.Elements.{All-push}
use mathlib.Core.Option.{none, some, some-injective}
use lib.ListN.{get_elem?}
use Rattle.atomic_table.specs.Table.{State, step, keeps, Allows}
use Rattle.ak_turn.specs.declared.view.Stage.{Stage}
use Rattle.ak_turn.specs.declared.view.Stage.TheVariants.{Idle, Waits, HasTurn, Spent}
use Rattle.ak_turn.specs.declared.view.Part.{Part}
use Rattle.ak_turn.specs.declared.view.View.{View}
use Rattle.ak_turn.specs.Entries.{places}
use Rattle.ak_turn.specs.Rule.{World, IsTimely, IsOurs, IsLive, Fits, IsSlot, Holds, Kept}
use Rattle.ak_turn.specs.Steps.{Sat, entered, added, HoldsBook, IsMore}
use Rattle.ak_turn.proofs.Lists.{each_stays, next_number}
use Rattle.ak_turn.proofs.Placing.{IsKnown-other, IsKnown-whole, places-own}
use Rattle.ak_turn.proofs.Seating.{not_spent_turn, one_at, two_threads}

module _ {O L : Type 0} where
  abbrev longer : World O L → L → World O L
  longer w entry = record w { history = w.history ++ entry ∷ [] }

  -- the others' stages fit a longer history, since none of them has the turn
  others_let : (w : World O L) (entry : L) (thread : ℕ) (part : Part L) (stage : Stage) → part.thread ≢ thread → get_elem? w.queue 0 ≡ some thread → IsTimely w part stage → IsTimely (longer w entry) part stage
  others_let w entry thread part Idle other first t = t
  others_let w entry thread part (Waits ticket) other first t = t
  others_let w entry thread part (HasTurn ticket) other first t = absurd (other (one_at w.queue 0 part.thread thread t.1 first))
  others_let w entry thread part Spent other first t = tt

module _ {O L : Type 0} (by : L → ℕ) where
  -- a part of another thread stays known
  stays_known : (w : World O L) (entry : L) (id : ℕ) (part : Part L) → by entry ≢ part.thread → IsOurs by w id part → IsOurs by (longer w entry) id part
  stays_known w entry id part other ours = record { known = IsKnown-other by w.history entry part other ours.known; owned = ours.owned; named = ours.named }

module _ {B O L : Type 0} (opening : B → O) (entries : B → List L) (at_rest : B → Type 0) (by : L → ℕ) where
  abbrev St : Type 0
  St = State (Option B) (View O L)

  slot_stays : (w : World O L) (entry : L) (homes : List (mathlib.Core.Option.Option (Option B))) → w.busy ≡ true → IsSlot opening entries at_rest w.opening w.history w.busy homes → IsSlot opening entries at_rest w.opening (w.history ++ entry ∷ []) w.busy homes
  slot_stays w entry homes busy slot =
      subst (λ b. IsSlot opening entries at_rest w.opening (w.history ++ entry ∷ []) b homes) (sym busy) (subst (λ b. IsSlot opening entries at_rest w.opening w.history b homes) busy slot)

  grown : (w : World O L) (s : St) (id : ℕ) (v : View O L) (ticket : ℕ) (entry : L) (front : List L) → Holds opening entries at_rest by w s → get_elem? s.views id ≡ some v → v.stage ≡ HasTurn ticket
      → by entry ≡ v.me.thread → front ≡ v.me.front ++ entry ∷ []
      → Holds opening entries at_rest by (longer w entry) record { words = set s.words 2 ((get_or s.words 2 0 + 1) % 2 ^ 64); homes = s.homes; views = set s.views id (entered front v) }
  grown w s id v ticket entry front h at turn mine goes_on =
      let live : IsLive by w id v = h.seats id v at (not_spent_turn v.stage ticket turn) in
      let t : IsTimely w v.me (HasTurn ticket) = subst (IsTimely w v.me) turn live.timely in
      let front' : front ≡ w.history ++ entry ∷ [] = goes_on ∙ ap (λ l. l ++ entry ∷ []) t.3 in
      let count : (length w.history % 2 ^ 64 + 1) % 2 ^ 64 ≡ length (w.history ++ entry ∷ []) % 2 ^ 64 =
      next_number (length w.history) (2 ^ 64) ∙ ap (λ (x : ℕ). x % 2 ^ 64) (sym (length-append w.history (entry ∷ []))) in
      let place : v.me.own ++ length v.me.front ∷ [] ≡ places by v.me.thread (w.history ++ entry ∷ []) =
      ap (λ l. v.me.own ++ length l ∷ []) t.3 ∙ ap (λ (l : List ℕ). l ++ length w.history ∷ []) live.me.known.all_own ∙ sym (places-own by v.me.thread w.history entry mine) in
      let apart : (part : Part L) → v.me.thread ≢ part.thread → by entry ≢ part.thread = λ part other e. other (sym mine ∙ e) in
      record {
        words = ap (λ (ws : List ℕ). set ws 2 ((get_or ws 2 0 + 1) % 2 ^ 64)) h.words ∙ ap (λ (x : ℕ). (w.served + length w.queue) % 2 ^ 64 ∷ w.served % 2 ^ 64 ∷ x ∷ []) count;
        slot = slot_stays w entry s.homes t.2 h.slot;
        waited = h.waited;
        queue = h.queue;
        queued = h.queued;
        names = h.names;
        makers = All-push (λ l. Contains w.names (by l)) w.history entry h.makers (subst (Contains w.names) (sym mine) live.me.named);
        seats = each_stays (Fits by (longer w entry)) s.views id (entered front v)
            (λ _. record {
              opening = live.opening;
              timely = subst (IsTimely (longer w entry) record { thread = v.me.thread; front = front; own = v.me.own ++ length v.me.front ∷ [] }) (sym turn) (t.0, t.1, t.2, front');
              me = record {
                known = IsKnown-whole by (w.history ++ entry ∷ []) record { thread = v.me.thread; front = front; own = v.me.own ++ length v.me.front ∷ [] } front' place;
                owned = live.me.owned;
                named = live.me.named;
              };
              joined = λ k d lt. stays_known by w entry id (get_or v.joined k d) (apart (get_or v.joined k d) (live.apart k d lt)) (live.joined k d lt);
              apart = live.apart;
              names = live.names;
            })
            (λ j u other there alive.
            let l : IsLive by w j u = h.seats j u there alive in
            let theirs : (part : Part L) → IsOurs by w j part → by entry ≢ part.thread = λ part ours. apart part (two_threads by w id j v.me part live.me ours (λ e. other (sym e))) in
            record {
              opening = l.opening;
              timely = others_let w entry v.me.thread u.me u.stage (two_threads by w j id u.me v.me l.me live.me other) t.1 l.timely;
              me = stays_known by w entry j u.me (theirs u.me l.me) l.me;
              joined = λ k d lt. stays_known by w entry j (get_or u.joined k d) (theirs (get_or u.joined k d) (l.joined k d lt)) (l.joined k d lt);
              apart = l.apart;
              names = l.names;
            });
      }

  abbrev in_hand : List (ℕ × Option B) → Option B
  in_hand [] = None
  in_hand (x ∷ xs) = x.1

  same_book : (m : Sat B O L) (book other : B) → m.1 ≡ (0, Some book) ∷ [] → m.1 ≡ (0, Some other) ∷ [] → book ≡ other
  same_book m book other a b = let e : Some book ≡ Some other = ap in_hand (sym a ∙ b) in cc

  pub adds : (slots id : ℕ) (book : B) (m : Sat B O L) → HoldsBook entries book m → IsMore entries book by m
      → Allows (Kept opening entries at_rest by) slots id m 2 (λ n. (n + 1) % 2 ^ 64) (added opening entries at_rest by (step slots 2 1 0 none) m)
  adds slots id book m has more s kept long at small = (
    entered (entries book) m.0,
    keeps,
    tt,
    (longer kept.0 more.0, grown kept.0 s id m.0 has.0.0 more.0 (entries book) kept.1 at has.0.1 more.2 more.1),
    λ other holds. ap (λ b. (entered (entries b) m.0, m.1)) (same_book m book other has.1 holds),
  )
