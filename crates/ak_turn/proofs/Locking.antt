-- What a seat is seen as once it has its turn, or has counted the entries.
use Rattle.std.proofs.Common.{◌≡◌, ℕ, List, [], ◌++◌, All, Contains, Some, None, refl, sym, ap, ◌∙◌, subst}
use Rattle.std.specs.Prelude.{Option, IfSome}
use Rattle.ak_turn.specs.declared.view.Stage.TheVariants.{Waits, HasTurn}
use Rattle.ak_turn.specs.declared.view.View.{View}
use Rattle.ak_turn.specs.Steps.{Sat, staged, fronted, TakesTurn, Glances}
use Rattle.ak_turn.specs.Seats.{LockId, SeatData, IsGiven, KnowsWhole, at_turn}
use Rattle.ak_turn.specs.Seen.{seat_seen}
use Rattle.ak_turn.proofs.Placing.{places_still}

if_some : (names : Option (List ℕ)) (P : List ℕ → Type 0) → ((ns : List ℕ) → names ≡ Some ns → P ns) → IfSome names P
if_some None P every = tt
if_some (Some ns) P every = every ns refl

module _ {B O L : Type 0} (by : L → ℕ) where
  -- what a seat knows of the whole it knows once it has counted the entries
  pub counted_whole : (lock lock' : LockId) (v : View O L) (slots : List (ℕ × Option B)) (n : ℕ) (m : Sat B O L) → Glances by n (v, slots) m → KnowsWhole by (seat_seen lock v) → KnowsWhole by (seat_seen lock' m.0)
  counted_whole lock lock' v slots n m g whole =
      let front : List L = v.me.front ++ g.between in
      let base : KnowsWhole by (seat_seen lock' (fronted front v)) = record {
        own = whole.own ∙ sym (places_still by v.me.thread v.me.front g.between g.others);
        joined = g.joined whole.joined;
        apart = whole.apart;
        names = if_some v.names (λ names. All (λ entry. Contains names (by entry)) front) g.names;
        named = whole.named;
      } in
      subst (λ x. KnowsWhole by (seat_seen lock' x)) (sym (ap (λ x. x.0) g.after)) base

module _ {B O L : Type 0} (opening : B → O) (entries : B → List L) (at_rest : B → Type 0) (by : L → ℕ) where
  abbrev Given : SeatData O L → SeatData O L → Type 0
  Given old new = IsGiven by old new × KnowsWhole by new

  from_view : (lock : LockId) (v : View O L) (waits ticket : ℕ) (m : Sat B O L) → TakesTurn opening entries at_rest by ticket (staged (Waits waits) v, []) m → Given (seat_seen lock v) (seat_seen lock m.0)
  from_view lock v waits ticket m t =
      let now : m.0 ≡ staged (HasTurn ticket) (fronted (entries t.book) v) = ap (λ x. x.0) t.after in
      let base : KnowsWhole by (seat_seen lock (staged (HasTurn ticket) (fronted (entries t.book) v))) = record {
        own = t.shown.me.all_own;
        joined = t.shown.joined;
        apart = t.shown.apart;
        names = if_some v.names (λ names. All (λ entry. Contains names (by entry)) (entries t.book)) t.shown.names;
        named = if_some v.names (λ names. Contains names v.me.thread) t.shown.named;
      } in (
        record {
          between = t.between;
          others = t.others;
          after = ap (seat_seen lock) now ∙ ap (λ l. at_turn (record (seat_seen lock v) { front = l })) t.told;
        },
        subst (λ x. KnowsWhole by (seat_seen lock x)) (sym now) base,
      )

  pub seat_given : (old : SeatData O L) (lock lock' : LockId) (v : View O L) (waits ticket : ℕ) (m n p : Sat B O L) (slots : List (ℕ × Option B)) → seat_seen lock v ≡ old → lock' ≡ lock
      → m ≡ (staged (Waits waits) v, []) → TakesTurn opening entries at_rest by ticket m n → p ≡ (n.0, slots) → IsGiven by old (seat_seen lock' p.0) × KnowsWhole by (seat_seen lock' p.0)
  seat_given old lock lock' v waits ticket m n p slots was same m_is t p_is =
      let base = from_view lock v waits ticket n (subst (λ x. TakesTurn opening entries at_rest by ticket x n) m_is t) in
      subst (λ (q : SeatData O L × LockId × View O L). Given q.0 (seat_seen q.1 q.2)) (λ i. (was i, sym same i, (sym p_is i).0)) base
