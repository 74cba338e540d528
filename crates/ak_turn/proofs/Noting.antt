-- What a thread did, with what stood before it.
use Rattle.std.proofs.Common.{◌≡◌, ◌≢◌, ℕ, List, [], ◌∷◌, ◌++◌, length, length-append, take, map, cond, All, refl, sym, ap, ◌∙◌, subst, append_assoc, append-nil, eq-eqb, ne_eqb, arith}
use Rattle.std.proofs.lemmas.List.Elements.{All-cons, All-head, All-nil, All-tail}
use Rattle.std.proofs.Math.Seq.{take-append_seam}
use mathlib.Core.Logic.{dite}
use native.Mathlib.Decide.{ℕ_discrete}
use Rattle.ak_turn.specs.declared.view.Part.{Part}
use Rattle.ak_turn.specs.Entries.{AreByOthers, made_by, places}
use Rattle.ak_turn.specs.Noted.{note, noted, noted_from, entry_of, StandsIn}
use Rattle.ak_turn.specs.Rule.{IsKnown}
use Rattle.ak_turn.specs.Seats.{SeatData, HasSeen, HasCalled}
use Rattle.ak_turn.proofs.NewSeats.{made_own, made_other}
use Rattle.ak_turn.proofs.Placing.{rest_by_others}

module _ {L : Type 0} (by : L → ℕ) (thread : ℕ) where
  noted_own : (before : List L) (x : L) (xs : List L) → by x ≡ thread → noted_from by thread before (x ∷ xs) ≡ note before x ∷ noted_from by thread (before ++ x ∷ []) xs
  noted_own before x xs e = ap (λ b. cond b (note before x ∷ noted_from by thread (before ++ x ∷ []) xs) (noted_from by thread (before ++ x ∷ []) xs)) (eq-eqb (by x) thread e)

  noted_other : (before : List L) (x : L) (xs : List L) → by x ≢ thread → noted_from by thread before (x ∷ xs) ≡ noted_from by thread (before ++ x ∷ []) xs
  noted_other before x xs e = ap (λ b. cond b (note before x ∷ noted_from by thread (before ++ x ∷ []) xs) (noted_from by thread (before ++ x ∷ []) xs)) (ne_eqb (by x) thread e)

  -- of a list in two parts
  noted_from-append : (before xs ys : List L) → noted_from by thread before (xs ++ ys) ≡ noted_from by thread before xs ++ noted_from by thread (before ++ xs) ys
  noted_from-append before [] ys = ap (λ l. noted_from by thread l ys) (sym (append-nil before))
  noted_from-append before (x ∷ xs) ys =
      let rest = noted_from-append (before ++ x ∷ []) xs ys ∙ ap (λ l. noted_from by thread (before ++ x ∷ []) xs ++ noted_from by thread l ys) (append_assoc before (x ∷ []) xs) in
      dite (ℕ_discrete (by x) thread)
      (λ e. noted_own before x (xs ++ ys) e ∙ ap (λ l. note before x ∷ l) rest ∙ ap (λ l. l ++ noted_from by thread (before ++ x ∷ xs) ys) (sym (noted_own before x xs e)))
      (λ e. noted_other before x (xs ++ ys) e ∙ rest ∙ ap (λ l. l ++ noted_from by thread (before ++ x ∷ xs) ys) (sym (noted_other before x xs e)))

  noted_from-others : (before xs : List L) → AreByOthers by thread xs → noted_from by thread before xs ≡ []
  noted_from-others before [] others = refl
  noted_from-others before (x ∷ xs) others =
      noted_other before x xs (All-head (λ entry. by entry ≢ thread) x xs others)
      ∙ noted_from-others (before ++ x ∷ []) xs (All-tail (λ entry. by entry ≢ thread) x xs others)

  made_from : (before xs : List L) → map entry_of (noted_from by thread before xs) ≡ made_by by thread xs
  made_from before [] = refl
  made_from before (x ∷ xs) =
      dite (ℕ_discrete (by x) thread)
      (λ e. ap (map entry_of) (noted_own before x xs e) ∙ ap (λ l. x ∷ l) (made_from (before ++ x ∷ []) xs) ∙ sym (made_own by thread x xs e))
      (λ e. ap (map entry_of) (noted_other before x xs e) ∙ made_from (before ++ x ∷ []) xs ∙ sym (made_other by thread x xs e))

  pub noted_is_made : (xs : List L) → map entry_of (noted by thread xs) ≡ made_by by thread xs
  noted_is_made xs = made_from [] xs

  -- others add nothing to it
  pub noted-others : (xs ys : List L) → AreByOthers by thread ys → noted by thread (xs ++ ys) ≡ noted by thread xs
  noted-others xs ys others = noted_from-append [] xs ys ∙ ap (λ l. noted by thread xs ++ l) (noted_from-others xs ys others) ∙ append-nil (noted by thread xs)

  -- an entry of its own is added
  pub noted-own : (xs : List L) (x : L) → by x ≡ thread → noted by thread (xs ++ x ∷ []) ≡ noted by thread xs ++ note xs x ∷ []
  noted-own xs x mine = noted_from-append [] xs (x ∷ []) ∙ ap (λ l. noted by thread xs ++ l) (noted_own xs x [] mine)

  note_stands : (before xs : List L) → All (StandsIn (before ++ xs)) (noted_from by thread before xs)
  note_stands before [] = All-nil (StandsIn (before ++ []))
  note_stands before (x ∷ xs) =
      let whole : (before ++ x ∷ []) ++ xs ≡ before ++ x ∷ xs = append_assoc before (x ∷ []) xs in
      let rest : All (StandsIn (before ++ x ∷ xs)) (noted_from by thread (before ++ x ∷ []) xs) = subst (λ l. All (StandsIn l) (noted_from by thread (before ++ x ∷ []) xs)) whole (note_stands (before ++ x ∷ []) xs) in
      dite (ℕ_discrete (by x) thread)
      (λ e. subst (All (StandsIn (before ++ x ∷ xs))) (sym (noted_own before x xs e)) (All-cons (StandsIn (before ++ x ∷ xs)) (note before x) (noted_from by thread (before ++ x ∷ []) xs) (xs, sym whole) rest))
      (λ e. subst (All (StandsIn (before ++ x ∷ xs))) (sym (noted_other before x xs e)) rest)

  pub noted_stands : (xs : List L) → All (StandsIn xs) (noted by thread xs)
  noted_stands xs = note_stands [] xs

-- two lists with one thing more each that are the same were the same
pub same_before : {L : Type 0} (xs ys : List L) (x y : L) → xs ++ x ∷ [] ≡ ys ++ y ∷ [] → xs ≡ ys
same_before xs ys x y e =
    let len : length xs ≡ length ys = omega (arith, length-append xs (x ∷ []), length-append ys (y ∷ []), ap (λ l. length l) e) in
    sym (take-append_seam xs (x ∷ [])) ∙ ap (λ l. take (length xs) l) e ∙ ap (λ (n : ℕ). take n (ys ++ y ∷ [])) len ∙ take-append_seam ys (y ∷ [])

module _ {O L : Type 0} (by : L → ℕ) where
  pub seen_notes_nothing : (a b : SeatData O L) → HasSeen by a b → noted by b.thread b.front ≡ noted by a.thread a.front
  seen_notes_nothing a b seen = ap (λ s. noted by s.thread s.front) seen.after ∙ noted-others by a.thread a.front seen.between seen.others

  pub called_notes_one : (entry : L) (before : List L) (a b : SeatData O L) → HasCalled by entry a b → b.front ≡ before ++ entry ∷ [] → noted by b.thread b.front ≡ noted by a.thread a.front ++ note before entry ∷ []
  called_notes_one entry before a b call front =
      let same : a.front ++ call.between ≡ before = same_before (a.front ++ call.between) before entry entry (sym (ap (λ s. s.front) call.after) ∙ front) in
      ap (λ s. noted by s.thread s.front) call.after
      ∙ noted-own by a.thread (a.front ++ call.between) entry call.mine
      ∙ ap (λ l. l ++ note (a.front ++ call.between) entry ∷ []) (noted-others by a.thread a.front call.between call.others)
      ∙ ap (λ l. noted by a.thread a.front ++ note l entry ∷ []) same

module _ {L : Type 0} (by : L → ℕ) where
  -- of a thread that is known, what is noted of the whole list is what is noted of its front
  pub known_notes : (entries : List L) (part : Part L) → IsKnown by entries part → noted by part.thread entries ≡ noted by part.thread part.front
  known_notes entries part known =
      let begins = known.begins in
      let others = rest_by_others by part.thread part.front begins.0 (ap (places by part.thread) (sym begins.1) ∙ sym known.all_own ∙ known.own_seen) in
      ap (noted by part.thread) begins.1 ∙ noted-others by part.thread part.front begins.0 others
