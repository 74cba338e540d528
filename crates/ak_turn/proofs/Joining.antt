-- A seat takes in what another knows, which is then spent.
use Rattle.std.proofs.Common.{◌≡◌, ◌≢◌, ℕ, eqb, cond, List, ◌∷◌, get_or, set, Some, None, sym, refl, ap, ◌∙◌, eq-eqb, ne_eqb}
use Rattle.std.specs.Prelude.{Option}
use Rattle.std.proofs.lemmas.List.Elements.{All-append, All-cons}
use mathlib.Core.Option.{some}
use lib.ListN.{get_elem?}
use Rattle.atomic_table.specs.Table.{State, Joins}
use Rattle.atomic_table.proofs.Lists.{set_else}
use Rattle.ak_turn.specs.declared.view.Stage.{Stage}
use Rattle.ak_turn.specs.declared.view.Stage.TheVariants.{Idle, Waits, HasTurn, Spent}
use Rattle.ak_turn.specs.declared.view.Part.{Part}
use Rattle.ak_turn.specs.declared.view.View.{View}
use Rattle.ak_turn.specs.Rule.{World, IsTimely, IsOurs, IsLive, Fits, Holds, Kept}
use Rattle.ak_turn.specs.Steps.{either_names, joined_view, spent_view}
use Rattle.ak_turn.proofs.Lists.{each_stays}
use Rattle.ak_turn.proofs.Seating.{not_spent_idle, two_threads}

-- what was the other seat's is the seat's
abbrev moved_to : ℕ → ℕ → ℕ → ℕ
moved_to id other owner = cond (eqb owner other) id owner

was_other : (id other owner : ℕ) → owner ≡ other → moved_to id other owner ≡ id
was_other id other owner e = ap (λ b. cond b id owner) (eq-eqb owner other e)

was_not : (id other owner : ℕ) → owner ≢ other → moved_to id other owner ≡ owner
was_not id other owner e = ap (λ b. cond b id owner) (ne_eqb owner other e)

module _ {O L : Type 0} where
  -- the world in which the entries of the other seat belong to the seat
  abbrev merged : World O L → ℕ → ℕ → World O L
  merged w id other = record w { owner = λ x. moved_to id other (w.owner x); head = moved_to id other w.head }

  same_times : (w : World O L) (id other : ℕ) (part : Part L) (stage : Stage) → IsTimely w part stage → IsTimely (merged w id other) part stage
  same_times w id other part Idle t = t
  same_times w id other part (Waits ticket) t = t
  same_times w id other part (HasTurn ticket) t = t
  same_times w id other part Spent t = t

module _ {B O L : Type 0} (opening : B → O) (entries : B → List L) (at_rest : B → Type 0) (by : L → ℕ) where
  abbrev St : Type 0
  St = State (Option B) (View O L)

  -- a part of any seat but the other
  stays_ours : (w : World O L) (id other j : ℕ) (part : Part L) → j ≢ other → IsOurs by w j part → IsOurs by (merged w id other) j part
  stays_ours w id other j part away ours = record {
    known = ours.known;
    owned = was_not id other (w.owner part.thread) (λ e. away (sym ours.owned ∙ e)) ∙ ours.owned;
    named = ours.named;
  }

  -- a part of the other
  becomes_ours : (w : World O L) (id other : ℕ) (part : Part L) → IsOurs by w other part → IsOurs by (merged w id other) id part
  becomes_ours w id other part theirs = record { known = theirs.known; owned = was_other id other (w.owner part.thread) theirs.owned; named = theirs.named }

  -- the names of two seats, of which one has them at most
  names_fit : (w : World O L) (id other : ℕ) → other ≢ id → (one two : Option (List ℕ)) → ((ns : List ℕ) → one ≡ Some ns → (ns ≡ w.names) × (id ≡ w.head)) → ((ns : List ℕ) → two ≡ Some ns → (ns ≡ w.names) × (other ≡ w.head))
      → (ns : List ℕ) → either_names one two ≡ Some ns → (ns ≡ w.names) × (id ≡ moved_to id other w.head)
  names_fit w id other away None two first second ns is = let e = second ns is in (e.0, sym (was_other id other w.head (sym e.1)))
  names_fit w id other away (Some names) two first second ns is =
      let e = first ns is in (e.0, e.1 ∙ sym (was_not id other w.head (λ same. away (sym same ∙ sym e.1))))

  both : (w : World O L) (s : St) (id other : ℕ) (v u : View O L) → Holds opening entries at_rest by w s → get_elem? s.views id ≡ some v → other ≢ id → get_elem? s.views other ≡ some u → v.stage ≡ Idle → u.stage ≡ Idle
      → IsLive by (merged w id other) id (joined_view v u)
  both w s id other v u h at away there idle their_idle =
      let live : IsLive by w id v = h.seats id v at (not_spent_idle v.stage idle) in
      let theirs : IsLive by w other u = h.seats other u there (not_spent_idle u.stage their_idle) in
      let away' : id ≢ other = λ e. away (sym e) in
      let ours = IsOurs by (merged w id other) id in
      let differ : (part : Part L) → IsOurs by w other part → v.me.thread ≢ part.thread = λ part o. two_threads by w id other v.me part live.me o away' in
      record {
        opening = live.opening;
        timely = same_times w id other v.me v.stage live.timely;
        me = stays_ours w id other id v.me away' live.me;
        joined = All-append ours v.joined (u.me ∷ u.joined) (λ k d lt. stays_ours w id other id (get_or v.joined k d) away' (live.joined k d lt))
            (All-cons ours u.me u.joined (becomes_ours w id other u.me theirs.me) (λ k d lt. becomes_ours w id other (get_or u.joined k d) (theirs.joined k d lt)));
        apart = All-append (λ part. v.me.thread ≢ part.thread) v.joined (u.me ∷ u.joined) live.apart
            (All-cons (λ part. v.me.thread ≢ part.thread) u.me u.joined (differ u.me theirs.me) (λ k d lt. differ (get_or u.joined k d) (theirs.joined k d lt)));
        names = names_fit w id other away v.names u.names live.names theirs.names;
      }

  one_seat : (w : World O L) (s : St) (id other : ℕ) (v u : View O L) → Holds opening entries at_rest by w s → get_elem? s.views id ≡ some v → other ≢ id → get_elem? s.views other ≡ some u → v.stage ≡ Idle → u.stage ≡ Idle
      → Holds opening entries at_rest by (merged w id other) record { words = s.words; homes = s.homes; views = set (set s.views id (joined_view v u)) other spent_view }
  one_seat w s id other v u h at away there idle their_idle = record {
    words = h.words;
    slot = h.slot;
    waited = h.waited;
    queue = h.queue;
    queued = h.queued;
    names = h.names;
    makers = h.makers;
    seats = each_stays (Fits by (merged w id other)) (set s.views id (joined_view v u)) other spent_view (λ alive. absurd (alive refl))
        (λ j x not_other in_set.
        each_stays (λ i y. i ≢ other → Fits by (merged w id other) i y) s.views id (joined_view v u)
        (λ _ _. both w s id other v u h at away there idle their_idle)
        (λ i y not_id in_views not_other alive.
        let l : IsLive by w i y = h.seats i y in_views alive in
        record {
          opening = l.opening;
          timely = same_times w id other y.me y.stage l.timely;
          me = stays_ours w id other i y.me not_other l.me;
          joined = λ k d lt. stays_ours w id other i (get_or y.joined k d) not_other (l.joined k d lt);
          apart = l.apart;
          names = λ ns is. let e = l.names ns is in (e.0, e.1 ∙ sym (was_not id other w.head (λ same. not_other (e.1 ∙ same))));
        })
        j x in_set not_other);
  }

  pub joins : (id other : ℕ) (v u : View O L) → v.stage ≡ Idle → u.stage ≡ Idle → Joins (Kept opening entries at_rest by) id v other u (joined_view v u) spent_view
  joins id other v u idle their_idle s kept at away there = (
    merged kept.0 id other,
    one_seat kept.0 s id other v u kept.1 at away (sym (set_else s.views id other (joined_view v u) away) ∙ there) idle their_idle,
  )
