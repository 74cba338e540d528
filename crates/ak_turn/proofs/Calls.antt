-- Calls of one seat, one after another, and what a thread made in all.
use Rattle.std.proofs.Common.{◌≡◌, ◌≢◌, ℕ, List, [], ◌∷◌, ◌++◌, length, cond, sym, ap, ◌∙◌, subst, append_assoc, append-nil, eq-eqb, ne_eqb, refl, arith, Contains}
use Rattle.std.proofs.lemmas.List.Elements.{All-append, All-contains, All-head, All-tail, Contains-append_left, Contains-append_right, filter-append}
use Rattle.ak_turn.specs.declared.view.Part.{Part}
use Rattle.ak_turn.specs.Entries.{AreByOthers, made_by, places}
use Rattle.ak_turn.specs.Rule.{IsKnown}
use Rattle.ak_turn.specs.Seats.{LockId, SeatData, HasSeen, HasCalled, IsGiven, KnowsWhole, KnowsOf, HasMade, later, with_own, joined_seat, part_of}
use Rattle.ak_turn.proofs.Placing.{rest_by_others}

module _ {O L : Type 0} (by : L → ℕ) where
  between_both : (a b : SeatData O L) (xs ys : List L) → b ≡ later a xs → AreByOthers by a.thread xs → AreByOthers by b.thread ys → AreByOthers by a.thread (xs ++ ys)
  between_both a b xs ys after first second = All-append (λ entry. by entry ≢ a.thread) xs ys first (subst (λ (thread : ℕ). AreByOthers by thread ys) (ap (λ s. s.thread) after) second)

  pub seen_then_seen : (a b c : SeatData O L) → HasSeen by a b → HasSeen by b c → HasSeen by a c
  seen_then_seen a b c one two = record {
    between = one.between ++ two.between;
    others = between_both a b one.between two.between one.after one.others two.others;
    after = two.after ∙ ap (λ s. later s two.between) one.after ∙ ap (λ l. record a { front = l }) (append_assoc a.front one.between two.between);
  }

  pub seen_then_called : (entry : L) (a b c : SeatData O L) → HasSeen by a b → HasCalled by entry b c → HasCalled by entry a c
  seen_then_called entry a b c one two = record {
    between = one.between ++ two.between;
    others = between_both a b one.between two.between one.after one.others two.others;
    mine = two.mine ∙ ap (λ s. s.thread) one.after;
    after = two.after ∙ ap (λ s. with_own s two.between entry) one.after
        ∙ ap (λ l. record a { front = l ++ entry ∷ []; own = a.own ++ length l ∷ [] }) (append_assoc a.front one.between two.between);
  }

module _ {L : Type 0} (by : L → ℕ) where
  -- others made nothing of the thread's
  pub made_by-others : (thread : ℕ) (entries : List L) → AreByOthers by thread entries → made_by by thread entries ≡ []
  made_by-others thread [] others = refl
  made_by-others thread (x ∷ xs) others =
      ap (λ b. cond b (x ∷ made_by by thread xs) (made_by by thread xs)) (ne_eqb (by x) thread (All-head (λ entry. by entry ≢ thread) x xs others))
      ∙ made_by-others thread xs (All-tail (λ entry. by entry ≢ thread) x xs others)

  pub known_is_made : (entries : List L) (part : Part L) → IsKnown by entries part → made_by by part.thread entries ≡ made_by by part.thread part.front
  known_is_made entries part known =
      let begins = known.begins in
      let others = rest_by_others by part.thread part.front begins.0 (ap (places by part.thread) (sym begins.1) ∙ sym known.all_own ∙ known.own_seen) in
      ap (made_by by part.thread) begins.1 ∙ filter-append _ part.front begins.0
      ∙ ap (λ l. made_by by part.thread part.front ++ l) (made_by-others part.thread begins.0 others) ∙ append-nil (made_by by part.thread part.front)

  made_by-own : (thread : ℕ) (entry : L) → by entry ≡ thread → made_by by thread (entry ∷ []) ≡ entry ∷ []
  made_by-own thread entry mine = ap (λ b. cond b (entry ∷ []) []) (eq-eqb (by entry) thread mine)

  pub made_by-called : (thread : ℕ) (front between : List L) (entry : L) → AreByOthers by thread between → by entry ≡ thread → made_by by thread ((front ++ between) ++ entry ∷ []) ≡ made_by by thread front ++ entry ∷ []
  made_by-called thread front between entry others mine =
      filter-append _ (front ++ between) (entry ∷ [])
      ∙ ap (λ l. l ++ made_by by thread (entry ∷ [])) (filter-append _ front between ∙ ap (λ l. made_by by thread front ++ l) (made_by-others thread between others) ∙ append-nil (made_by by thread front))
      ∙ ap (λ l. made_by by thread front ++ l) (made_by-own thread entry mine)

module _ {O L : Type 0} (by : L → ℕ) where
  -- with the turn a thread has made what it had made before
  pub still_made : (seat given : SeatData O L) → IsGiven by seat given → made_by by seat.thread given.front ≡ made_by by seat.thread seat.front
  still_made seat given seen =
      let made = made_by by seat.thread in
      ap (λ (s : SeatData O L). made s.front) seen.after ∙ filter-append _ seat.front seen.between ∙ ap (λ l. made seat.front ++ l) (made_by-others by seat.thread seen.between seen.others) ∙ append-nil (made seat.front)

module _ {O L : Type 0} (by : L → ℕ) where
  -- a call is one entry more that the thread made
  pub makes_one : (lock : LockId) (thread : ℕ) (made : List L) (entry : L) (old new : SeatData O L) → HasMade by lock thread made old → HasCalled by entry old new → HasMade by lock thread (made ++ entry ∷ []) new
  makes_one lock thread made entry old new has call = record {
    of = ap (λ s. s.lock) call.after ∙ has.of;
    idle = ap (λ s. s.turn) call.after ∙ has.idle;
    is = ap (λ s. s.thread) call.after ∙ has.is;
    made_so = ap (λ s. made_by by thread s.front) call.after
        ∙ made_by-called by thread old.front call.between entry (subst (λ (t : ℕ). AreByOthers by t call.between) has.is call.others) (call.mine ∙ has.is)
        ∙ ap (λ l. l ++ entry ∷ []) has.made_so;
  }

  -- what was known stays known after a join
  pub knows_still : (thread : ℕ) (made : List L) (old other new : SeatData O L) → KnowsOf by thread made old → new ≡ joined_seat old other → KnowsOf by thread made new
  knows_still thread made old other new knows after = record {
    part = knows.part;
    there = subst (λ s. Contains s.joined knows.part) (sym after) (Contains-append_left old.joined (part_of other ∷ other.joined) knows.part knows.there);
    is = knows.is;
    made_so = knows.made_so;
  }

  -- and what the other seat's thread made is known
  pub knows_other : (lock : LockId) (thread : ℕ) (made : List L) (old other new : SeatData O L) → HasMade by lock thread made other → new ≡ joined_seat old other → KnowsOf by thread made new
  knows_other lock thread made old other new has after = record {
    part = part_of other;
    there = subst (λ s. Contains s.joined (part_of other)) (sym after) (Contains-append_right old.joined (part_of other ∷ other.joined) (part_of other) (0, omega arith, refl));
    is = has.is;
    made_so = has.made_so;
  }

  -- a seat with the turn has in the whole list what it knows of
  pub knows_whole : (thread : ℕ) (made : List L) (old new : SeatData O L) → KnowsOf by thread made old → IsGiven by old new → KnowsWhole by new → made_by by thread new.front ≡ made
  knows_whole thread made old new knows given whole =
      let there : Contains new.joined knows.part = subst (λ s. Contains s.joined knows.part) (sym given.after) knows.there in
      let known : IsKnown by new.front knows.part = All-contains (IsKnown by new.front) new.joined knows.part whole.joined there in
      ap (λ t. made_by by t new.front) (sym knows.is) ∙ known_is_made by new.front knows.part known ∙ ap (λ t. made_by by t knows.part.front) knows.is ∙ knows.made_so

-- what a seat comes to know when seats are joined to it, until it has the turn
pub ruleset knowing = (knows_still, knows_other, knows_whole)
