-- A seat with a ticket looks which number is served, and takes the turn where it is its own.
use Rattle.std.proofs.Common.{◌≡◌, ◌≢◌, ℕ, ◌+◌, ◌%◌, ◌^◌, ◌<◌, ◌≤◌, true, false, List, [], ◌∷◌, length, get_or, set, All, Contains, Some, sym, refl, ap, ◌∙◌, subst, ⊎_elim, arith}
use Rattle.std.specs.Prelude.{Option}
use Rattle.std.proofs.lemmas.Bool.{cases_Bool}
use mathlib.Core.Option.{none, some}
use mathlib.Core.Logic.{dite}
use native.Mathlib.Decide.{ℕ_discrete}
use lib.ListN.{get_elem?}
use lib.Seq.{set-get_or}
use Rattle.atomic_table.specs.Table.{State, Act, step, keeps, takes, stepped, Allows, Valid, carried_after}
use Rattle.atomic_table.proofs.Lists.{one_turn, set_again}
use Rattle.ak_turn.specs.declared.view.Stage.{Stage}
use Rattle.ak_turn.specs.declared.view.Stage.TheVariants.{Idle, Waits, HasTurn, Spent}
use Rattle.ak_turn.specs.declared.view.Part.{Part}
use Rattle.ak_turn.specs.declared.view.View.{View}
use Rattle.ak_turn.specs.Entries.{places}
use Rattle.ak_turn.specs.Rule.{World, IsTimely, IsKnown, IsOurs, IsLive, Fits, IsSlot, Holds, Kept}
use Rattle.ak_turn.specs.Steps.{Sat, staged, fronted, looked, IsShown, TakesTurn}
use Rattle.ak_turn.proofs.Lists.{at_within, each_stays}
use Rattle.ak_turn.proofs.Placing.{IsKnown-whole, rest_by_others}
use Rattle.ak_turn.proofs.Seating.{not_spent_waits, one_at, two_threads, few_tickets}

module _ {O L : Type 0} where
  abbrev busied : World O L → World O L
  busied w = record w { busy = true }

  -- the others' stages fit once a seat has the turn that was at the head of the queue
  others_wait_on : (w : World O L) (thread : ℕ) (part : Part L) (stage : Stage) → part.thread ≢ thread → get_elem? w.queue 0 ≡ some thread → w.busy ≡ false
      → IsTimely w part stage → IsTimely (busied w) part stage
  others_wait_on w thread part Idle other first free t = t
  others_wait_on w thread part (Waits ticket) other first free (k, is, at, _) = (
    k,
    is,
    at,
    λ _. dite (ℕ_discrete k 0)
        (λ e. absurd (other (one_at w.queue 0 part.thread thread (subst (λ (i : ℕ). get_elem? w.queue i ≡ some part.thread) e at) first)))
        (λ ne. omega arith),
  )
  others_wait_on w thread part (HasTurn ticket) other first free t = let no : true ≡ false = sym t.2 ∙ free in absurd (cc)
  others_wait_on w thread part Spent other first free t = tt

module _ {B O L : Type 0} (opening : B → O) (entries : B → List L) (at_rest : B → Type 0) (by : L → ℕ) where
  abbrev St : Type 0
  St = State (Option B) (View O L)

  -- what the seat learns from the book in the slot
  learns : (w : World O L) (id : ℕ) (v : View O L) (all : (l : List L) → l ≡ w.history → All (λ entry. Contains w.names (by entry)) l) (l : List L) → l ≡ w.history → IsLive by w id v → IsShown by v l
  learns w id v all l told live =
      let know : (part : Part L) → IsOurs by w id part → IsKnown by l part = λ part ours. subst (λ (h : List L). IsKnown by h part) (sym told) ours.known in
      record {
        me = know v.me live.me;
        joined = λ k d lt. know (get_or v.joined k d) (live.joined k d lt);
        apart = live.apart;
        names = λ names is. subst (λ (ns : List ℕ). All (λ entry. Contains ns (by entry)) l) (sym (live.names names is).0) (all l told);
        named = λ names is. subst (λ (ns : List ℕ). Contains ns v.me.thread) (sym (live.names names is).0) live.me.named;
      }

  -- the seat has the turn
  taken : (w : World O L) (s : St) (id : ℕ) (v : View O L) (ticket : ℕ) (book : B) → Holds opening entries at_rest by w s → get_elem? s.views id ≡ some v → v.stage ≡ Waits ticket → ticket ≡ w.served
      → get_elem? w.queue 0 ≡ some v.me.thread → w.busy ≡ false → s.homes ≡ some (Some book) ∷ [] → entries book ≡ w.history
      → Holds opening entries at_rest by (busied w) record { words = set s.words 1 (get_or s.words 1 0); homes = set s.homes 0 none; views = set s.views id (staged (HasTurn ticket) (fronted (entries book) v)) }
  taken w s id v ticket book h at waits now first free homes told =
      let live : IsLive by w id v = h.seats id v at (not_spent_waits v.stage ticket waits) in
      record {
        words = set-get_or s.words 1 0 ∙ h.words;
        slot = ap (λ hs. set hs 0 none) homes;
        waited = λ _. omega (arith, at_within w.queue 0 v.me.thread first);
        queue = h.queue;
        queued = h.queued;
        names = h.names;
        makers = h.makers;
        seats = each_stays (Fits by (busied w)) s.views id (staged (HasTurn ticket) (fronted (entries book) v))
            (λ _. record {
              opening = live.opening;
              timely = (now, first, refl, told);
              me = record {
                known = IsKnown-whole by w.history record { thread = v.me.thread; front = entries book; own = v.me.own } told live.me.known.all_own;
                owned = live.me.owned;
                named = live.me.named;
              };
              joined = live.joined;
              apart = live.apart;
              names = live.names;
            })
            (λ j u other there alive.
            let l : IsLive by w j u = h.seats j u there alive in
            record {
              opening = l.opening;
              timely = others_wait_on w v.me.thread u.me u.stage (two_threads by w j id u.me v.me l.me live.me other) first free l.timely;
              me = l.me;
              joined = l.joined;
              apart = l.apart;
              names = l.names;
            });
      }

  -- nothing changes
  unmoved : (w : World O L) (s : St) (id i : ℕ) (v : View O L) → Holds opening entries at_rest by w s → get_elem? s.views id ≡ some v
      → Holds opening entries at_rest by w record { words = set s.words i (get_or s.words i 0); homes = s.homes; views = set s.views id v }
  unmoved w s id i v h at = subst (λ (p : List ℕ × List (View O L)). Holds opening entries at_rest by w record { words = p.0; homes = s.homes; views = p.1 })
      (λ k. (sym (set-get_or s.words i 0) k, sym (set_again s.views id v at) k)) h

  -- the ticket that is served is at the head of the queue
  its_turn : (served ticket k q : ℕ) → ticket ≡ served + k → k < q → q ≤ 2 ^ 32 → served % 2 ^ 64 ≡ ticket % 2 ^ 64 → k ≡ 0
  its_turn served ticket k q is lt few same = let e : served ≡ ticket = one_turn served ticket (2 ^ 64) (omega arith) (omega arith) same in omega arith

  abbrev Answer : ℕ → ℕ → Sat B O L → St → ℕ → Type 0
  Answer slots id m s ticket = (v : View O L) × (a : Act (Option B)) × Valid s.homes m.1 a × Kept opening entries at_rest by (stepped s 1 (get_or s.words 1 0) id m.1 v a)
      × ((get_or s.words 1 0 ≡ ticket % 2 ^ 64 → TakesTurn opening entries at_rest by ticket m (v, carried_after m.1 a)) × (get_or s.words 1 0 ≢ ticket % 2 ^ 64 → (v, carried_after m.1 a) ≡ m))

  finds_own : (slots id : ℕ) (m : Sat B O L) (s : St) (ticket : ℕ) (w : World O L) (h : Holds opening entries at_rest by w s) → get_elem? s.views id ≡ some m.0 → m.0.stage ≡ Waits ticket → m.1 ≡ []
      → ticket ≡ w.served → get_elem? w.queue 0 ≡ some m.0.me.thread → w.busy ≡ false → (slot : IsSlot opening entries at_rest w.opening w.history false s.homes) → get_or s.words 1 0 ≡ ticket % 2 ^ 64
      → Answer slots id m s ticket
  finds_own slots id m s ticket w h at waits empty now first free (book, homes, laid) found =
      let live : IsLive by w id m.0 = h.seats id m.0 at (not_spent_waits m.0.stage ticket waits) in
      let begins = live.me.known.begins in (
        staged (HasTurn ticket) (fronted (entries book) m.0),
        takes 0 (Some book),
        ap (λ hs. get_elem? hs 0) homes,
        (busied w, taken w s id m.0 ticket book h at waits now first free homes laid.told),
        (
          (λ _. record {
            book = book;
            between = begins.0;
            rests = laid.rests;
            opened = live.opening ∙ ap Some (sym laid.opened_so);
            told = laid.told ∙ begins.1;
            others = rest_by_others by m.0.me.thread m.0.me.front begins.0 (ap (places by m.0.me.thread) (sym begins.1) ∙ sym live.me.known.all_own ∙ live.me.known.own_seen);
            shown = learns w id m.0 (λ l e. subst (λ (x : List L). All (λ entry. Contains w.names (by entry)) x) (sym e) h.makers) (entries book) laid.told live;
            after = ap (λ (c : List (ℕ × Option B)). (staged (HasTurn ticket) (fronted (entries book) m.0), (0, Some book) ∷ c)) empty;
          }),
          λ other. absurd (other found),
        ),
      )

  finds_other : (slots id : ℕ) (m : Sat B O L) (s : St) (ticket : ℕ) (w : World O L) → Holds opening entries at_rest by w s → get_elem? s.views id ≡ some m.0 → get_or s.words 1 0 ≢ ticket % 2 ^ 64 → Answer slots id m s ticket
  finds_other slots id m s ticket w h at other = (m.0, keeps, tt, (w, unmoved w s id 1 m.0 h at), ((λ own. absurd (other own)), λ _. refl))

  finds : (slots id : ℕ) (m : Sat B O L) (s : St) (ticket : ℕ) → Kept opening entries at_rest by s → get_elem? s.views id ≡ some m.0 → m.0.stage ≡ Waits ticket → m.1 ≡ [] → Answer slots id m s ticket
  finds slots id m s ticket (w, h) at waits empty =
      dite (ℕ_discrete (get_or s.words 1 0) (ticket % 2 ^ 64))
      (λ own.
      let live : IsLive by w id m.0 = h.seats id m.0 at (not_spent_waits m.0.stage ticket waits) in
      let t : IsTimely w m.0.me (Waits ticket) = subst (IsTimely w m.0.me) waits live.timely in
      let k : ℕ = t.0 in
      let word : get_or s.words 1 0 ≡ w.served % 2 ^ 64 = ap (λ (ws : List ℕ). get_or ws 1 0) h.words in
      let zeroth : k ≡ 0 = its_turn w.served ticket k (length w.queue) t.1 (at_within w.queue k m.0.me.thread t.2) (few_tickets opening entries at_rest by w s h) (sym word ∙ own) in
      ⊎_elim (λ (busy : w.busy ≡ true). let late = t.3 busy in absurd (omega arith))
      (λ (free : w.busy ≡ false).
      finds_own slots id m s ticket w h at waits empty (omega (arith, t.1)) (subst (λ (i : ℕ). get_elem? w.queue i ≡ some m.0.me.thread) zeroth t.2) free
      (subst (λ b. IsSlot opening entries at_rest w.opening w.history b s.homes) free h.slot) own)
      (cases_Bool w.busy))
      (λ other. finds_other slots id m s ticket w h at other)

  same_ticket : (stage : Stage) (t u : ℕ) → stage ≡ Waits t → stage ≡ Waits u → t ≡ u
  same_ticket stage t u a b = let e : Waits t ≡ Waits u = sym a ∙ b in cc

  pub looks : (slots id : ℕ) (m : Sat B O L) (ticket : ℕ) → m.0.stage ≡ Waits ticket → m.1 ≡ []
      → Allows (Kept opening entries at_rest by) slots id m 1 (λ n. n) (looked opening entries at_rest by (step slots 1 0 0 none) m)
  looks slots id m ticket waits empty s kept long at small =
      let found = finds slots id m s ticket kept at waits empty in (
        found.0,
        found.1,
        found.2,
        found.3,
        λ u is. subst (λ (t : ℕ). (get_or s.words 1 0 ≡ t % 2 ^ 64 → TakesTurn opening entries at_rest by t m (found.0, carried_after m.1 found.1)) × (get_or s.words 1 0 ≢ t % 2 ^ 64 → (found.0, carried_after m.1 found.1) ≡ m))
            (same_ticket m.0.stage ticket u waits is) found.4,
      )
