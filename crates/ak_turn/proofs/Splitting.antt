-- The head's view is cut in two, for a seat of a new thread.
use Rattle.std.proofs.Common.{◌≡◌, ◌≢◌, ℕ, ◌^◌, ◌<◌, eqb, cond, List, [], ◌∷◌, ◌++◌, length, get_or, set, All, Contains, Some, None, sym, refl, ap, ◌∙◌, subst, ⊎_elim, arith, length-set, length-append, eq-eqb, ne_eqb}
use Rattle.std.proofs.Math.ListN.{get_or-append}
use Rattle.std.specs.Prelude.{Option}
use Rattle.std.proofs.lemmas.List.Elements.{All-nil, All-push, All-contains, All-weaker, Contains-append_left, Contains-push}
use mathlib.Core.Option.{some}
use lib.ListN.{get_elem?}
use Rattle.atomic_table.specs.Table.{State, Splits}
use Rattle.ak_turn.specs.declared.view.Stage.{Stage}
use Rattle.ak_turn.specs.declared.view.Stage.TheVariants.{Idle, Waits, HasTurn, Spent}
use Rattle.ak_turn.specs.declared.view.Part.{Part}
use Rattle.ak_turn.specs.declared.view.View.{View}
use Rattle.ak_turn.specs.Entries.{AreByOthers}
use Rattle.ak_turn.specs.Rule.{World, IsTimely, IsOurs, IsLive, Fits, Holds, Kept}
use Rattle.ak_turn.specs.Steps.{IsNewName, named, names_with, titled, newcomer}
use Rattle.ak_turn.proofs.Lists.{at_push, contains_at, each_stays}
use Rattle.ak_turn.proofs.Placing.{places-others}
use Rattle.ak_turn.proofs.Seating.{not_spent_idle}

module _ {O L : Type 0} where
  -- the world with one name more, whose entries belong to a new seat
  abbrev wider : World O L → ℕ → ℕ → ℕ → World O L
  wider w thread seat head = record w { names = named w.names thread; owner = λ x. cond (eqb x thread) seat (w.owner x); head = head }

  -- stages have nothing to do with names
  same_times : (w : World O L) (thread seat head : ℕ) (part : Part L) (stage : Stage) → IsTimely w part stage → IsTimely (wider w thread seat head) part stage
  same_times w thread seat head part Idle t = t
  same_times w thread seat head part (Waits ticket) t = t
  same_times w thread seat head part (HasTurn ticket) t = t
  same_times w thread seat head part Spent t = t

-- the seat may have these names in that world
abbrev IsTitle : Option (List ℕ) → List ℕ → ℕ → ℕ → Type 0
IsTitle names all id head = (ns : List ℕ) → names ≡ Some ns → (ns ≡ all) × (id ≡ head)

front_of_all : {L : Type 0} (P : L → Type 0) (all xs ys : List L) → all ≡ xs ++ ys → All P all → All P xs
front_of_all P all xs ys is every k d lt = subst P (get_or-append xs ys d k lt) (subst (All P) is every k d (omega (arith, length-append xs ys)))

module _ {B O L : Type 0} (opening : B → O) (entries : B → List L) (at_rest : B → Type 0) (by : L → ℕ) where
  abbrev St : Type 0
  St = State (Option B) (View O L)

  -- a part belongs to its seat still
  still_ours : (w : World O L) (thread seat head id : ℕ) (part : Part L) → ¬ Contains w.names thread → IsOurs by w id part → IsOurs by (wider w thread seat head) id part
  still_ours w thread seat head id part new ours =
      let other : part.thread ≢ thread = λ e. new (subst (Contains w.names) e ours.named) in record {
        known = ours.known;
        owned = ap (λ b. cond b seat (w.owner part.thread)) (ne_eqb part.thread thread other) ∙ ours.owned;
        named = Contains-append_left w.names (thread ∷ []) part.thread ours.named;
      }

  -- no entry is by a new thread
  by_others : (names : List ℕ) (thread : ℕ) (all : List L) → ¬ Contains names thread → All (λ entry. Contains names (by entry)) all → AreByOthers by thread all
  by_others names thread all new every = All-weaker (λ entry. Contains names (by entry)) (λ entry. by entry ≢ thread) (λ entry there e. new (subst (Contains names) e there)) all every

  forked : (w : World O L) (s : St) (id : ℕ) (v : View O L) (thread head : ℕ) (left right : Option (List ℕ)) → Holds opening entries at_rest by w s → get_elem? s.views id ≡ some v → v.stage ≡ Idle
      → id ≡ w.head → thread < 2 ^ 32 → ¬ Contains w.names thread → IsTitle left (named w.names thread) id head → IsTitle right (named w.names thread) (length s.views) head
      → Holds opening entries at_rest by (wider w thread (length s.views) head) record { words = s.words; homes = s.homes; views = set s.views id (titled left v) ++ newcomer thread right v ∷ [] }
  forked w s id v thread head left right h at idle first small new left_names right_names =
      let live : IsLive by w id v = h.seats id v at (not_spent_idle v.stage idle) in
      let seat : ℕ = length s.views in
      let begins = live.me.known.begins in
      let none_all : AreByOthers by thread w.history = by_others w.names thread w.history new h.makers in
      let none_seen : AreByOthers by thread v.me.front = front_of_all (λ entry. by entry ≢ thread) w.history v.me.front begins.0 begins.1 none_all in
      let old : (j : ℕ) (u : View O L) → get_elem? (set s.views id (titled left v)) j ≡ some u → Fits by (wider w thread seat head) j u =
      each_stays (Fits by (wider w thread seat head)) s.views id (titled left v)
      (λ _. record {
        opening = live.opening;
        timely = same_times w thread seat head v.me v.stage live.timely;
        me = still_ours w thread seat head id v.me new live.me;
        joined = λ k d lt. still_ours w thread seat head id (get_or v.joined k d) new (live.joined k d lt);
        apart = live.apart;
        names = left_names;
      })
      (λ j u other there alive.
      let l : IsLive by w j u = h.seats j u there alive in
      record {
        opening = l.opening;
        timely = same_times w thread seat head u.me u.stage l.timely;
        me = still_ours w thread seat head j u.me new l.me;
        joined = λ k d lt. still_ours w thread seat head j (get_or u.joined k d) new (l.joined k d lt);
        apart = l.apart;
        names = λ ns is. absurd (other ((l.names ns is).1 ∙ sym first));
      }) in
      record {
        words = h.words;
        slot = h.slot;
        waited = h.waited;
        queue = h.queue;
        queued = All-weaker (Contains w.names) (Contains (named w.names thread)) (λ x there. Contains-append_left w.names (thread ∷ []) x there) w.queue h.queued;
        names = All-push (λ x. x < 2 ^ 32) w.names thread h.names small;
        makers = All-weaker (λ entry. Contains w.names (by entry)) (λ entry. Contains (named w.names thread) (by entry)) (λ entry there. Contains-append_left w.names (thread ∷ []) (by entry) there) w.history h.makers;
        seats = λ j u there. ⊎_elim (λ before. old j u before)
            (λ (last : (j ≡ length (set s.views id (titled left v))) × (newcomer thread right v ≡ u)).
            subst (λ (x : ℕ × View O L). Fits by (wider w thread seat head) x.0 x.1) (λ i. (sym (last.0 ∙ length-set s.views id (titled left v)) i, last.1 i))
            (λ _. record {
              opening = live.opening;
              timely = λ k there. new (All-contains (Contains w.names) w.queue thread h.queued (contains_at w.queue k thread there));
              me = record {
                known = record { begins = begins; all_own = sym (places-others by thread w.history none_all); own_seen = sym (places-others by thread v.me.front none_seen) };
                owned = ap (λ b. cond b seat (w.owner thread)) (eq-eqb thread thread refl);
                named = Contains-push w.names thread;
              };
              joined = All-nil (IsOurs by (wider w thread seat head) seat);
              apart = All-nil (λ part. thread ≢ part.thread);
              names = right_names;
            }))
            (at_push (set s.views id (titled left v)) (newcomer thread right v) u j there);
      }

  no_title : (all : List ℕ) (id head : ℕ) → IsTitle None all id head
  no_title all id head ns is = absurd (cc)

  full_title : (all : List ℕ) (id : ℕ) → IsTitle (Some all) all id id
  full_title all id ns is = ((let e : Some ns ≡ Some all = sym is in cc), refl)

  -- a name that the seat calls new is none of the names
  is_new : (w : World O L) (id : ℕ) (v : View O L) (thread : ℕ) (names : Option (List ℕ)) → v.names ≡ names → IsLive by w id v → IsNewName names thread
      → (id ≡ w.head) × (¬ Contains w.names thread) × (names_with names thread ≡ Some (named w.names thread))
  is_new w id v thread None is live new = absurd new
  is_new w id v thread (Some ns) is live new = let e = live.names ns is in (e.1, (λ there. All-contains (λ name. name ≢ thread) ns thread new (subst (λ (l : List ℕ). Contains l thread) (sym e.0) there) refl), ap (λ (l : List ℕ). Some (named l thread)) e.0)

  pub splits : (id : ℕ) (v : View O L) (thread : ℕ) → thread < 2 ^ 32 → v.stage ≡ Idle → IsNewName v.names thread
      → Splits (Kept opening entries at_rest by) id v (titled (names_with v.names thread) v) (newcomer thread None v)
  splits id v thread small idle new s kept at =
      let w = kept.0 in
      let live : IsLive by w id v = kept.1.seats id v at (not_spent_idle v.stage idle) in
      let n = is_new w id v thread v.names refl live new in (
        wider w thread (length s.views) id,
        forked w s id v thread id (names_with v.names thread) None kept.1 at idle n.0 small n.1 (subst (λ names. IsTitle names (named w.names thread) id id) (sym n.2) (full_title (named w.names thread) id))
            (no_title (named w.names thread) (length s.views) id),
      )

  pub splits_head : (id : ℕ) (v : View O L) (thread : ℕ) → thread < 2 ^ 32 → v.stage ≡ Idle → IsNewName v.names thread
      → Splits (Kept opening entries at_rest by) id v (titled None v) (newcomer thread (names_with v.names thread) v)
  splits_head id v thread small idle new s kept at =
      let w = kept.0 in
      let live : IsLive by w id v = kept.1.seats id v at (not_spent_idle v.stage idle) in
      let n = is_new w id v thread v.names refl live new in
      let seat : ℕ = length s.views in (
        wider w thread seat seat,
        forked w s id v thread seat None (names_with v.names thread) kept.1 at idle n.0 small n.1 (no_title (named w.names thread) id seat)
            (subst (λ names. IsTitle names (named w.names thread) seat seat) (sym n.2) (full_title (named w.names thread) seat)),
      )
