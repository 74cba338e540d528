-- What a command does to the ids.
use Rattle.std.proofs.Common.{◌≡◌, ℕ, zero, suc, ◌+◌, ◌<◌, ◌≤◌, Bool, true, false, cond, List, [], ◌∷◌, ◌++◌, map, take, drop, All, AllPairs, Contains, Result, Ok, Err, ⊎_elim, refl, sym, ap, ◌∙◌, arith}
use Rattle.std.specs.Prelude.{IfOk}
use Rattle.std.proofs.lemmas.List.{map-append, take-map, drop-map, take-append-drop}
use Rattle.std.proofs.lemmas.List.Elements.{All-append, All-cons, All-take, All-drop, All-head, All-tail, All-push, All-map, All-weaker, All-contains, All-contains_itself, Contains-push_cases}
use Rattle.std.proofs.lemmas.List.Folds.{drop_split}
use Rattle.std.proofs.lemmas.List.Kept.{AllPairs-cons}
use Rattle.std.proofs.lemmas.List.Quantifiers.{all_pairs_push}
use Rattle.ak_base.proofs.Surface.{head_pairs, tail_pairs}
use Rattle.ak_message.specs.declared.specifier.At.{At}
use Rattle.ak_message.specs.Message.{ValueData, MessageData}
use Rattle.ak_value.specs.declared.fault.ElementFault.{ElementFault}
use Rattle.ak_value.specs.Elements.{ElementData, ElementsData}
use Rattle.ak_value.specs.Choice.{Part, chosen, elements_in, with_part}
use Rattle.ak_value.specs.Access.{Accessed, access_of, has_form, gets, sets, counts, creates, data_of, has_room, with_value}
use Rattle.ak_value.specs.Laws.{Command, elements_after, after, ids_of, IdsStayRising, NoIdIsUsedAgain}

-- ---- a list without a part of it
pairs_behind : {X : Type 0} (R : X → X → Type 0) (b : ℕ) (xs : List X) → AllPairs R xs → AllPairs R (drop b xs)
pairs_behind R zero xs h = h
pairs_behind R (suc b) [] h = h
pairs_behind R (suc b) (x ∷ xs) h = pairs_behind R b xs (tail_pairs R x xs h)

all_without : {X : Type 0} (P : X → Type 0) (a b : ℕ) (xs : List X) → All P xs → All P (take a xs ++ drop b xs)
all_without P a b xs h = All-append P (take a xs) (drop b xs) (All-take P a xs h) (All-drop P b xs h)

pairs_without : {X : Type 0} (R : X → X → Type 0) (a b : ℕ) (xs : List X) → a ≤ b → AllPairs R xs → AllPairs R (take a xs ++ drop b xs)
pairs_without R zero b xs le h = pairs_behind R b xs h
pairs_without R (suc a) zero xs le h = absurd (omega arith)
pairs_without R (suc a) (suc b) [] le h = h
pairs_without R (suc a) (suc b) (x ∷ xs) le h =
    AllPairs-cons R x (take a xs ++ drop b xs) (all_without (R x) a b xs (head_pairs R x xs h)) (pairs_without R a b xs (omega arith) (tail_pairs R x xs h))

-- ---- what holds of a list's ids
pairs_of_ids : {X Y : Type 0} (R : Y → Y → Type 0) (f : X → Y) (xs : List X) → AllPairs (λ a b. R (f a) (f b)) xs → AllPairs R (map f xs)
pairs_of_ids R f [] h = λ i j d lt within. absurd (omega arith)
pairs_of_ids R f (x ∷ xs) h =
    AllPairs-cons R (f x) (map f xs) (All-map (R (f x)) f xs (head_pairs (λ a b. R (f a) (f b)) x xs h)) (pairs_of_ids R f xs (tail_pairs (λ a b. R (f a) (f b)) x xs h))

all_from_ids : {X Y : Type 0} (P : Y → Type 0) (f : X → Y) (xs : List X) → All P (map f xs) → All (λ x. P (f x)) xs
all_from_ids P f [] h = λ k d within. absurd (omega arith)
all_from_ids P f (x ∷ xs) h = All-cons (λ y. P (f y)) x xs (All-head P (f x) (map f xs) h) (all_from_ids P f xs (All-tail P (f x) (map f xs) h))

pairs_from_ids : {X Y : Type 0} (R : Y → Y → Type 0) (f : X → Y) (xs : List X) → AllPairs R (map f xs) → AllPairs (λ a b. R (f a) (f b)) xs
pairs_from_ids R f [] h = λ i j d lt within. absurd (omega arith)
pairs_from_ids R f (x ∷ xs) h =
    AllPairs-cons (λ a b. R (f a) (f b)) x xs (all_from_ids (R (f x)) f xs (head_pairs R (f x) (map f xs) h)) (pairs_from_ids R f xs (tail_pairs R (f x) (map f xs) h))

abbrev IsBelow : ℕ → ℕ → Type 0
IsBelow next id = (1 ≤ id) × (id < next)

record Rise (ids : List ℕ) (next : ℕ) : Type 0 where
  apart : AllPairs (λ a b. a < b) ids
  below : All (IsBelow next) ids

-- ---- one step: from ids and the next one to other ids and another next one
record IsStep (ids : List ℕ) (next : ℕ) (ids_then : List ℕ) (next_then : ℕ) : Type 0 where
  rising : 1 ≤ next → Rise ids next → Rise ids_then next_then
  no_lower : next ≤ next_then
  none_again : (id : ℕ) → id < next → Contains ids_then id → Contains ids id

no_step : (ids : List ℕ) (next : ℕ) → IsStep ids next ids next
no_step ids next = record { rising = λ _ h. h; no_lower = omega arith; none_again = λ id below has. has }

two_steps : (a b c : List ℕ) (l m n : ℕ) → IsStep a l b m → IsStep b m c n → IsStep a l c n
two_steps a b c l m n s t =
    record {
      rising = λ above h. t.rising (omega (arith, s.no_lower)) (s.rising above h);
      no_lower = omega (arith, s.no_lower, t.no_lower);
      none_again = λ id below has. s.none_again id below (t.none_again id (omega (arith, s.no_lower)) has);
    }

-- a part is gone
step_without : (ids : List ℕ) (next a b : ℕ) → a ≤ b → IsStep ids next (take a ids ++ drop b ids) next
step_without ids next a b le =
    record {
      rising = λ above h. record {
        apart = pairs_without (λ a b. a < b) a b ids le h.apart;
        below = all_without (IsBelow next) a b ids h.below;
      };
      no_lower = omega arith;
      none_again = λ id below has. All-contains (Contains ids) (take a ids ++ drop b ids) id (all_without (Contains ids) a b ids (All-contains_itself ids)) has;
    }

-- the next one is given
step_given : (ids : List ℕ) (next : ℕ) → IsStep ids next (ids ++ next ∷ []) (next + 1)
step_given ids next =
    record {
      rising = λ above h. record {
        apart = all_pairs_push (λ a b. a < b) ids next h.apart (λ k d within. (h.below k d within).1);
        below = All-push (IsBelow (next + 1)) ids next (All-weaker (IsBelow next) (IsBelow (next + 1)) (λ id b. (b.0, omega (arith, b.1))) ids h.below) (above, omega arith);
      };
      no_lower = omega arith;
      none_again = λ id below has. ⊎_elim (λ before. before) (λ (last : next ≡ id). absurd (omega arith)) (Contains-push_cases ids next id has);
    }

-- ---- what a command makes of the elements
-- as specs/Access goes on with what was found
abbrev then_do : {A B : Type 0} → Result A ElementFault → (A → Result B ElementFault) → Result B ElementFault
then_do (Ok x) f = f x
then_do (Err e) f = Err e

abbrev IsKept : ElementsData → ElementsData → Type 0
IsKept e f = IsStep (ids_of e) e.next_id (ids_of f) f.next_id

abbrev id_of : ElementData → ℕ
id_of x = x.id

ids_without : (list : List ElementData) (p : Part) → map id_of (with_part p list []) ≡ take p.from (map id_of list) ++ drop (p.from + p.count) (map id_of list)
ids_without list p =
    rw (map-append id_of (take p.from list) (drop (p.from + p.count) list), take-map id_of p.from list, drop-map id_of (p.from + p.count) list) refl

same_ids : (value : ValueData) (list : List ElementData) → map id_of (map (with_value value) list) ≡ map id_of list
same_ids value [] = refl
same_ids value (x ∷ xs) = ap (λ ids. x.id ∷ ids) (same_ids value xs)

whole_again : (list : List ElementData) (p : Part) → take p.from list ++ (elements_in p list ++ drop (p.from + p.count) list) ≡ list
whole_again list p =
    ap (λ xs. take p.from list ++ xs) (sym (drop_split list p.from (p.from + p.count) (omega arith))) ∙ take-append-drop p.from list

ids_with_value : (list : List ElementData) (p : Part) (value : ValueData) → map id_of (with_part p list (map (with_value value) (elements_in p list))) ≡ map id_of list
ids_with_value list p value =
    let before : List ElementData = take p.from list in
    let middle : List ElementData = elements_in p list in
    let behind : List ElementData = drop (p.from + p.count) list in
    map-append id_of before (map (with_value value) middle ++ behind)
    ∙ ap (λ ids. map id_of before ++ ids) (map-append id_of (map (with_value value) middle) behind ∙ ap (λ ids. ids ++ map id_of behind) (same_ids value middle) ∙ sym (map-append id_of middle behind))
    ∙ sym (map-append id_of before (middle ++ behind))
    ∙ ap (map id_of) (whole_again list p)

module _ (e : ElementsData) where
  -- a part gets a value, a part is gone, and one more is there
  kept_with_value : (p : Part) (value : ValueData) → IsKept e (record e { list = with_part p e.list (map (with_value value) (elements_in p e.list)) })
  kept_with_value p value = rw (ids_with_value e.list p value) (no_step (ids_of e) e.next_id)

  kept_without : (p : Part) → IsKept e (record e { list = with_part p e.list [] })
  kept_without p = rw (ids_without e.list p) (step_without (ids_of e) e.next_id p.from (p.from + p.count) (omega arith))

  kept_with_one_more : (x : ElementData) → x.id ≡ e.next_id → IsKept e (record e { list = e.list ++ x ∷ []; next_id = e.next_id + 1 })
  kept_with_one_more x is = rw (map-append id_of e.list (x ∷ []), is) (step_given (ids_of e) e.next_id)

  record Keeps (r : Result Accessed ElementFault) : Type 0 where
    kept : IfOk r (λ a. IsKept e a.elements)

  answered : (a : Accessed) → IsKept e a.elements → Keeps (Ok a)
  answered a kept = record { kept = kept }

  refused : (f : ElementFault) → Keeps (Err f)
  refused f = record { kept = tt }

  keeps_if : (b : Bool) (r s : Result Accessed ElementFault) → Keeps r → Keeps s → Keeps (cond b r s)
  keeps_if true r s first second = first
  keeps_if false r s first second = second

  keeps_then : {A : Type 0} (r : Result A ElementFault) (f : A → Result Accessed ElementFault) → ((x : A) → Keeps (f x)) → Keeps (then_do r f)
  keeps_then (Ok x) f each = each x
  keeps_then (Err d) f each = refused d

  each_keeps : (what : ℕ) (at : At) (m : MessageData) → Keeps (access_of e what at m)
  each_keeps what at m =
      keeps_if (has_form what at) _ _
      (keeps_if (gets what) _ _ (keeps_then (chosen e.list at) _ (λ p. answered _ (no_step (ids_of e) e.next_id)))
      (keeps_if (sets what) _ _ (keeps_then (data_of e.kind m) _ (λ value. keeps_then (chosen e.list at) _ (λ p. answered _ (kept_with_value p value))))
      (keeps_if (counts what) _ _ (answered _ (no_step (ids_of e) e.next_id))
      (keeps_if (creates what) _ _ (keeps_then (data_of e.kind m) _ (λ value. keeps_if (has_room e) _ _ (answered _ (kept_with_one_more _ refl)) (refused _)))
      (keeps_then (chosen e.list at) _ (λ p. answered _ (kept_without p)))))))
      (refused _)

  kept_after : (r : Result Accessed ElementFault) → Keeps r → IsKept e (elements_after e r)
  kept_after (Ok a) k = k.kept
  kept_after (Err f) k = no_step (ids_of e) e.next_id

-- ---- after any commands
all_kept : (e : ElementsData) (cs : List Command) → IsKept e (after e cs)
all_kept e [] = no_step (ids_of e) e.next_id
all_kept e (c ∷ cs) =
    let r : Result Accessed ElementFault = access_of e c.what c.at c.message in
    let next : ElementsData = elements_after e r in
    two_steps (ids_of e) (ids_of next) (ids_of (after next cs)) e.next_id next.next_id (after next cs).next_id (kept_after e r (each_keeps e c.what c.at c.message)) (all_kept next cs)

pub ids_stay_rising : IdsStayRising
ids_stay_rising e cs above h =
    let kept = all_kept e cs in
    let r = kept.rising above (record { apart = pairs_of_ids (λ a b. a < b) id_of e.list h.0; below = All-map (IsBelow e.next_id) id_of e.list h.1 }) in
    (kept.no_lower, (pairs_from_ids (λ a b. a < b) id_of (after e cs).list r.apart, all_from_ids (IsBelow (after e cs).next_id) id_of (after e cs).list r.below))

pub no_id_is_used_again : NoIdIsUsedAgain
no_id_is_used_again e cs = (all_kept e cs).none_again
