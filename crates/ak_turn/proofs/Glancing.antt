-- A seat without a turn counts the entries, and has then seen so many.
use Rattle.std.proofs.Common.{◌≡◌, ◌≢◌, ℕ, ◌*◌, ◌/◌, ◌-◌, ◌%◌, ◌^◌, ◌≤◌, List, [], ◌∷◌, ◌++◌, length, get_or, set, take, drop, All, Contains, sym, refl, ap, ◌∙◌, subst, arith, append_assoc, length-append, div-add-mod'}
use Rattle.std.specs.Prelude.{Option}
use Rattle.std.proofs.lemmas.List.{take-append-drop, length-take-le}
use Rattle.std.proofs.lemmas.List.Elements.{All-head, All-tail, All-cons, All-nil}
use lib.ListN.{get_elem?}
use lib.Seq.{set-get_or}
use mathlib.Core.Option.{none, some}
use Rattle.atomic_table.specs.Table.{State, step, keeps, Allows}
use Rattle.ak_turn.specs.declared.view.Stage.{Stage}
use Rattle.ak_turn.specs.declared.view.Stage.TheVariants.{Idle}
use Rattle.ak_turn.specs.declared.view.Part.{Part}
use Rattle.ak_turn.specs.declared.view.View.{View}
use Rattle.ak_turn.specs.Entries.{places, AreByOthers}
use Rattle.ak_turn.specs.Rule.{World, IsTimely, IsKnown, IsLive, Fits, Holds, Kept}
use Rattle.ak_turn.specs.Steps.{Sat, fronted, glanced}
use Rattle.ak_turn.proofs.Lists.{each_stays}
use Rattle.ak_turn.proofs.Placing.{places_still, rest_by_others}
use Rattle.ak_turn.proofs.Seating.{not_spent_idle}

module _ {L : Type 0} where
  -- what holds of all holds of the first of them
  first_of : (P : L → Type 0) (xs ys : List L) → All P (xs ++ ys) → All P xs
  first_of P [] ys all = All-nil P
  first_of P (x ∷ xs) ys all = All-cons P x xs (All-head P x (xs ++ ys) all) (first_of P xs ys (All-tail P x (xs ++ ys) all))

module _ {L : Type 0} (by : L → ℕ) where
  -- behind a known part there is nothing of its thread's
  rest_of : (history rest : List L) (part : Part L) → history ≡ part.front ++ rest → IsKnown by history part → AreByOthers by part.thread rest
  rest_of history rest part is known = rest_by_others by part.thread part.front rest (ap (places by part.thread) (sym is) ∙ sym known.all_own ∙ known.own_seen)

  -- so its front may go on by the first of that
  known_on : (history between after : List L) (part : Part L) → history ≡ (part.front ++ between) ++ after → IsKnown by history part
      → IsKnown by history record { thread = part.thread; front = part.front ++ between; own = part.own }
  known_on history between after part is known =
      let others = first_of (λ entry. by entry ≢ part.thread) between after (rest_of history (between ++ after) part (is ∙ append_assoc part.front between after) known) in
      record { begins = (after, is); all_own = known.all_own; own_seen = known.own_seen ∙ sym (places_still by part.thread part.front between others) }

  -- what was known up to a front is known up to a longer one
  known_of_more : (history front between after : List L) (part : Part L) → history ≡ (front ++ between) ++ after → IsKnown by history part → IsKnown by front part → IsKnown by (front ++ between) part
  known_of_more history front between after part is whole known =
      let b = known.begins in
      let rest : List L = b.0 ++ between in
      let longer : front ++ between ≡ part.front ++ rest = ap (λ l. l ++ between) b.1 ∙ append_assoc part.front b.0 between in
      let on = known_on history rest after part (is ∙ ap (λ l. l ++ after) longer) whole in
      record { begins = (rest, longer); all_own = on.own_seen ∙ ap (places by part.thread) (sym longer); own_seen = known.own_seen }

module _ {O L : Type 0} where
  idle_still : (w : World O L) (me : Part L) (front : List L) (stage : Stage) → stage ≡ Idle → IsTimely w me stage → IsTimely w record { thread = me.thread; front = front; own = me.own } stage
  idle_still w me front stage idle t = subst (IsTimely w record { thread = me.thread; front = front; own = me.own }) (sym idle) (subst (IsTimely w me) idle t)

module _ {B O L : Type 0} (opening : B → O) (entries : B → List L) (at_rest : B → Type 0) (by : L → ℕ) where
  -- no more are counted than there are
  counted : (w : World O L) (s : State (Option B) (View O L)) → Holds opening entries at_rest by w s → get_or s.words 2 0 ≤ length w.history
  counted w s h =
      let n : ℕ = length w.history in
      let word : get_or s.words 2 0 ≡ n % 2 ^ 64 = ap (λ (ws : List ℕ). get_or ws 2 0) h.words in
      let whole = div-add-mod' n (2 ^ 64) in let q : ℕ = n / 2 ^ 64 * 2 ^ 64 in let r : ℕ = n % 2 ^ 64 in omega (arith, word)

  goes_on : (w : World O L) (s : State (Option B) (View O L)) (id : ℕ) (v : View O L) (between after : List L) → Holds opening entries at_rest by w s → get_elem? s.views id ≡ some v → v.stage ≡ Idle
      → w.history ≡ (v.me.front ++ between) ++ after
      → Holds opening entries at_rest by w record { words = set s.words 2 (get_or s.words 2 0); homes = s.homes; views = set s.views id (fronted (v.me.front ++ between) v) }
  goes_on w s id v between after h at idle is =
      let live : IsLive by w id v = h.seats id v at (not_spent_idle v.stage idle) in
      record {
        words = set-get_or s.words 2 0 ∙ h.words;
        slot = h.slot;
        waited = h.waited;
        queue = h.queue;
        queued = h.queued;
        names = h.names;
        makers = h.makers;
        seats = each_stays (Fits by w) s.views id (fronted (v.me.front ++ between) v)
            (λ _. record {
              opening = live.opening;
              timely = idle_still w v.me (v.me.front ++ between) v.stage idle live.timely;
              me = record { known = known_on by w.history between after v.me is live.me.known; owned = live.me.owned; named = live.me.named };
              joined = live.joined;
              apart = live.apart;
              names = live.names;
            })
            (λ j u other there. h.seats j u there);
      }

  pub glances : (slots id : ℕ) (m : Sat B O L) → m.0.stage ≡ Idle → Allows (Kept opening entries at_rest by) slots id m 2 (λ n. n) (glanced by (step slots 2 0 0 none) m)
  glances slots id m idle s (w, h) long at small =
      let live : IsLive by w id m.0 = h.seats id m.0 at (not_spent_idle m.0.stage idle) in
      let front : List L = m.0.me.front in
      let begins = live.me.known.begins in
      let n : ℕ = get_or s.words 2 0 in
      let k : ℕ = n - length front in
      let between : List L = take k begins.0 in
      let after : List L = drop k begins.0 in
      let is : w.history ≡ (front ++ between) ++ after = begins.1 ∙ ap (λ l. front ++ l) (sym (take-append-drop k begins.0)) ∙ sym (append_assoc front between after) in
      let most : k ≤ length begins.0 = omega (arith, counted w s h, ap (λ (l : List L). length l) begins.1, length-append front begins.0) in (
        fronted (front ++ between) m.0,
        keeps,
        tt,
        (w, goes_on w s id m.0 between after h at idle is),
        record {
          between = between;
          others = first_of (λ entry. by entry ≢ m.0.me.thread) between after (rest_of by w.history (between ++ after) m.0.me (is ∙ append_assoc front between after) live.me.known);
          many = λ less. omega (arith, less, length-append front between, length-take-le k begins.0 most);
          joined = λ known i d lt. known_of_more by w.history front between after (get_or m.0.joined i d) is (live.joined i d lt).known (known i d lt);
          names = λ ns named. first_of (λ entry. Contains ns (by entry)) (front ++ between) after
              (subst (λ (l : List L). All (λ entry. Contains ns (by entry)) l) is (subst (λ (names : List ℕ). All (λ entry. Contains names (by entry)) w.history) (sym (live.names ns named).0) h.makers));
          after = refl;
        },
      )
