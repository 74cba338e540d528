-- A seat with the turn gives the book back and passes the turn on.
use Rattle.std.proofs.Common.{◌≡◌, ◌≢◌, ℕ, zero, suc, ◌+◌, ◌%◌, ◌^◌, true, false, List, [], ◌∷◌, length, get_or, set, drop, Contains, Some, sym, ap, ◌∙◌, subst, arith}
use Rattle.std.specs.Prelude.{Option}
use Rattle.std.proofs.lemmas.List.Elements.{All-drop}
use mathlib.Core.Option.{none, some}
use lib.ListN.{get_elem?}
use Rattle.atomic_table.specs.Table.{State, step, gives, Allows, put_back, rest}
use Rattle.ak_turn.specs.declared.view.Stage.{Stage}
use Rattle.ak_turn.specs.declared.view.Stage.TheVariants.{Idle, Waits, HasTurn, Spent}
use Rattle.ak_turn.specs.declared.view.Part.{Part}
use Rattle.ak_turn.specs.declared.view.View.{View}
use Rattle.ak_turn.specs.Rule.{World, IsTimely, IsLive, Fits, IsSlot, Holds, Kept}
use Rattle.ak_turn.specs.Steps.{Sat, staged, passed, HoldsBook, IsSame}
use Rattle.ak_turn.proofs.Lists.{at_behind, at_within, length_behind, distinct_behind, each_stays, next_number}
use Rattle.ak_turn.proofs.Seating.{not_spent_turn, one_at, two_threads}

module _ {O L : Type 0} where
  abbrev freed : World O L → World O L
  freed w = record w { served = suc w.served; queue = drop 1 w.queue; busy = false }

  -- the others move up
  others_move_up : (w : World O L) (thread : ℕ) (part : Part L) (stage : Stage) → part.thread ≢ thread → get_elem? w.queue 0 ≡ some thread → w.busy ≡ true → IsTimely w part stage → IsTimely (freed w) part stage
  others_move_up w thread part Idle other first busy t = λ k at. t (suc k) (sym (at_behind w.queue k) ∙ at)
  others_move_up w thread part (Waits ticket) other first busy (zero, is, at, late) = let no = late busy in absurd (omega arith)
  others_move_up w thread part (Waits ticket) other first busy (suc k, is, at, late) = (k, omega (arith, is), at_behind w.queue k ∙ at, λ no. absurd (cc))
  others_move_up w thread part (HasTurn ticket) other first busy t = absurd (other (one_at w.queue 0 part.thread thread t.1 first))
  others_move_up w thread part Spent other first busy t = tt

module _ {B O L : Type 0} (opening : B → O) (entries : B → List L) (at_rest : B → Type 0) (by : L → ℕ) where
  abbrev St : Type 0
  St = State (Option B) (View O L)

  same_opening : (o : Option O) (a b : O) → o ≡ Some a → o ≡ Some b → b ≡ a
  same_opening o a b x y = let e : Some b ≡ Some a = sym y ∙ x in cc

  given : (w : World O L) (s : St) (id : ℕ) (v : View O L) (ticket : ℕ) (book : B) → Holds opening entries at_rest by w s → get_elem? s.views id ≡ some v → v.stage ≡ HasTurn ticket
      → at_rest book → v.opening ≡ Some (opening book) → entries book ≡ v.me.front
      → Holds opening entries at_rest by (freed w) record { words = set s.words 1 ((get_or s.words 1 0 + 1) % 2 ^ 64); homes = set s.homes 0 (some (Some book)); views = set s.views id (staged Idle v) }
  given w s id v ticket book h at turn rests opened told =
      let live : IsLive by w id v = h.seats id v at (not_spent_turn v.stage ticket turn) in
      let t : IsTimely w v.me (HasTurn ticket) = subst (IsTimely w v.me) turn live.timely in
      let out : s.homes ≡ none ∷ [] = subst (λ b. IsSlot opening entries at_rest w.opening w.history b s.homes) t.2 h.slot in
      let shorter : length w.queue ≡ suc (length (drop 1 w.queue)) = length_behind w.queue (omega (arith, at_within w.queue 0 v.me.thread t.1)) in
      let words : (w.served + length w.queue) % 2 ^ 64 ∷ (w.served % 2 ^ 64 + 1) % 2 ^ 64 ∷ length w.history % 2 ^ 64 ∷ [] ≡ (suc w.served + length (drop 1 w.queue)) % 2 ^ 64 ∷ suc w.served % 2 ^ 64 ∷ length w.history % 2 ^ 64 ∷ [] =
      λ i. (let e : w.served + length w.queue ≡ suc w.served + length (drop 1 w.queue) = omega (arith, shorter) in e i) % 2 ^ 64
      ∷ ((next_number w.served (2 ^ 64) ∙ (let e : w.served + 1 ≡ suc w.served = omega arith in ap (λ (x : ℕ). x % 2 ^ 64) e)) i) ∷ length w.history % 2 ^ 64 ∷ [] in
      record {
        words = ap (λ (ws : List ℕ). set ws 1 ((get_or ws 1 0 + 1) % 2 ^ 64)) h.words ∙ words;
        slot = (book, ap (λ hs. set hs 0 (some (Some book))) out, record { rests = rests; opened_so = same_opening v.opening w.opening (opening book) live.opening opened; told = told ∙ t.3 });
        waited = λ no. absurd (cc);
        queue = distinct_behind w.queue h.queue;
        queued = All-drop (Contains w.names) 1 w.queue h.queued;
        names = h.names;
        makers = h.makers;
        seats = each_stays (Fits by (freed w)) s.views id (staged Idle v)
            (λ _. record {
              opening = live.opening;
              timely = λ k behind. let e : 0 ≡ suc k = h.queue 0 (suc k) v.me.thread t.1 (sym (at_behind w.queue k) ∙ behind) in absurd (omega arith);
              me = live.me;
              joined = live.joined;
              apart = live.apart;
              names = live.names;
            })
            (λ j u other there alive.
            let l : IsLive by w j u = h.seats j u there alive in
            record {
              opening = l.opening;
              timely = others_move_up w v.me.thread u.me u.stage (two_threads by w j id u.me v.me l.me live.me other) t.1 t.2 l.timely;
              me = l.me;
              joined = l.joined;
              apart = l.apart;
              names = l.names;
            });
      }

  abbrev After : (w : World O L) (s : St) (id : ℕ) (m : Sat B O L) → List (ℕ × Option B) → Type 0
  After w s id m c = Holds opening entries at_rest by (freed w) record { words = set s.words 1 ((get_or s.words 1 0 + 1) % 2 ^ 64); homes = put_back s.homes c; views = set s.views id (staged Idle m.0) }

  pub passes : (slots id : ℕ) (book : B) (m : Sat B O L) → HoldsBook entries book m → IsSame entries book m → at_rest book → m.0.opening ≡ Some (opening book)
      → Allows (Kept opening entries at_rest by) slots id m 1 (λ n. (n + 1) % 2 ^ 64) (passed (step slots 1 1 0 none) m)
  passes slots id book m has same rests opened s kept long at small = (
    staged Idle m.0,
    gives,
    tt,
    (freed kept.0, subst (After kept.0 s id m) (sym has.1) (given kept.0 s id m.0 has.0.0 book kept.1 at has.0.1 rests opened same)),
    ap (λ (c : List (ℕ × Option B)). (staged Idle m.0, rest c)) has.1,
  )
