-- What a seat knows of the whole list, once its turn has ended.
use Rattle.std.proofs.Common.{◌≡◌, ℕ, List, [], ◌∷◌, ◌++◌, length, All, Contains, Some, None, get_or, sym, ap, ◌∙◌, subst, ⊎_elim}
use Rattle.std.specs.Prelude.{Option, IfSome}
use Rattle.std.proofs.lemmas.List.Elements.{All-push}
use Rattle.ak_turn.specs.declared.view.Stage.TheVariants.{Idle}
use Rattle.ak_turn.specs.declared.view.View.{View}
use Rattle.ak_turn.specs.Steps.{Sat, staged, entered, IsNoted}
use Rattle.ak_turn.specs.Seats.{LockId, SeatData, KnowsWhole, entered_by}
use Rattle.ak_turn.specs.Seen.{seat_seen}
use Rattle.ak_turn.proofs.Placing.{IsKnown-other, places-own}

module _ {L : Type 0} (by : L → ℕ) where
  -- one entry more, by a thread among the names
  still_named : (thread : ℕ) (names : Option (List ℕ)) (front : List L) (entry : L) → by entry ≡ thread → IfSome names (λ ns. Contains ns thread) → IfSome names (λ ns. All (λ l. Contains ns (by l)) front)
      → IfSome names (λ ns. All (λ l. Contains ns (by l)) (front ++ entry ∷ []))
  still_named thread None front entry mine named all = tt
  still_named thread (Some ns) front entry mine named all = All-push (λ l. Contains ns (by l)) front entry all (subst (Contains ns) (sym mine) named)

module _ {O L : Type 0} (by : L → ℕ) where
  -- an entry of the seat's own more
  knows_more : (seat : SeatData O L) (entry : L) → by entry ≡ seat.thread → KnowsWhole by seat → KnowsWhole by (entered_by seat entry)
  knows_more seat entry mine whole = record {
    own = ap (λ l. l ++ length seat.front ∷ []) whole.own ∙ sym (places-own by seat.thread seat.front entry mine);
    joined = λ k d lt. IsKnown-other by seat.front entry (get_or seat.joined k d) (λ e. whole.apart k d lt (sym mine ∙ e)) (whole.joined k d lt);
    apart = whole.apart;
    names = still_named by seat.thread seat.names seat.front entry mine whole.named whole.names;
    named = whole.named;
  }

module _ {B O L : Type 0} (entries : B → List L) (by : L → ℕ) where
  -- the turn was passed on, with a new entry or with none
  pub knows_after : (old : SeatData O L) (lock lock' : LockId) (book : B) (v : View O L) (slots : List (ℕ × Option B)) (m n p : Sat B O L) → seat_seen lock v ≡ old → m ≡ (v, slots) → IsNoted entries book by m n → p ≡ (staged Idle n.0, [])
      → KnowsWhole by old → KnowsWhole by (seat_seen lock' p.0)
  knows_after old lock lock' book v slots m n p was m_is noted p_is whole =
      let known : KnowsWhole by (seat_seen lock v) = subst (KnowsWhole by) (sym was) whole in
      let same : n ≡ m → KnowsWhole by (seat_seen lock' p.0) = λ unmoved.
      let now : p.0 ≡ staged Idle v = ap (λ x. x.0) p_is ∙ ap (λ x. staged Idle x.0) (unmoved ∙ m_is) in
      subst (λ x. KnowsWhole by (seat_seen lock' x)) (sym now) (record { own = known.own; joined = known.joined; apart = known.apart; names = known.names; named = known.named }) in
      ⊎_elim (λ unmoved. same unmoved.1)
      (λ more.
      let entry = more.0.0 in
      let front : entries book ≡ v.me.front ++ entry ∷ [] = more.0.1 ∙ ap (λ x. x.0.me.front ++ entry ∷ []) m_is in
      let mine : by entry ≡ v.me.thread = more.0.2 ∙ ap (λ x. x.0.me.thread) m_is in
      let one : KnowsWhole by (entered_by (seat_seen lock v) entry) = knows_more by (seat_seen lock v) entry mine known in
      let now : p.0 ≡ staged Idle (entered (v.me.front ++ entry ∷ []) v) =
      ap (λ x. x.0) p_is ∙ ap (λ x. staged Idle x.0) more.1 ∙ ap (λ x. staged Idle (entered (entries book) x.0)) m_is ∙ ap (λ l. staged Idle (entered l v)) front in
      subst (λ x. KnowsWhole by (seat_seen lock' x)) (sym now) (record { own = one.own; joined = one.joined; apart = one.apart; names = one.names; named = one.named }))
      noted
