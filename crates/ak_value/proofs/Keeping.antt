-- Each command keeps what is always true of elements.
use Rattle.std.proofs.Common.{◌≡◌, ℕ, zero, suc, ◌+◌, ◌<◌, ◌≤◌, true, List, [], ◌∷◌, ◌++◌, length, get_or, map, take, drop, refl, ap, sym, subst, ◌∙◌, arith, tests}
use Rattle.std.specs.List.{All, AllPairs}
use Rattle.std.proofs.lemmas.List.{length-map, length_push, get_or-map, map-append}
use Rattle.std.proofs.lemmas.List.Edits.{split_between}
use Rattle.std.proofs.lemmas.List.Elements.{All-append, All-take, All-drop, All-push, All-map, All-tail, All-cons}
use Rattle.std.proofs.lemmas.List.Quantifiers.{all_pairs_push, all_pairs_remove}
use Rattle.ak_message.specs.declared.kind.Kind.{Kind}
use Rattle.ak_message.specs.Message.{ValueData, kind_of}
use Rattle.ak_value.specs.Elements.{ElementData, ElementsData, IsElements, with_first}
use Rattle.ak_value.specs.Choice.{Part, elements_in, with_part}
use Rattle.ak_value.specs.Access.{with_value, has_room, create}
use Rattle.ak_value.proofs.Parts.{without, without_none, without_more, length-without}

-- ---- other values
abbrev ids : List ElementData → List ℕ
ids xs = map (λ x. x.id) xs

length-ids : (xs ys : List ElementData) → ids ys ≡ ids xs → length ys ≡ length xs
length-ids xs ys e = sym (length-map ys (λ x. x.id)) ∙ ap length e ∙ length-map xs (λ x. x.id)

id_at : (xs ys : List ElementData) → ids ys ≡ ids xs → (i : ℕ) (d : ElementData) → i < length ys → (get_or ys i d).id ≡ (get_or xs i d).id
id_at xs ys e i d h =
    sym (get_or-map (λ x. x.id) ys i d d.id h) ∙ ap (λ l. get_or l i d.id) e ∙ get_or-map (λ x. x.id) xs i d d.id (omega (arith, length-ids xs ys e))

pub revalued : (e : ElementsData) (list : List ElementData) → ids list ≡ ids e.list → All (λ x. kind_of x.value ≡ e.kind) list → IsElements e → IsElements (record e { list = list })
revalued e list same kinds h =
    let n = length-ids e.list list same in
    record {
      limit = omega (arith, h.limit);
      same_kind = kinds;
      ids = (
        (λ i j d lt within. omega (arith, id_at e.list list same i d (omega arith), id_at e.list list same j d (omega arith), h.ids.0 i j d lt (omega arith))),
        (λ i d within. (omega (arith, id_at e.list list same i d within, (h.ids.1 i d (omega arith)).0), omega (arith, id_at e.list list same i d within, (h.ids.1 i d (omega arith)).1))),
      );
      next_id = h.next_id;
    }

ids-revalued : (value : ValueData) (xs : List ElementData) → ids (map (with_value value) xs) ≡ ids xs
ids-revalued value [] = refl
ids-revalued value (x ∷ xs) = ap (λ t. x.id ∷ t) (ids-revalued value xs)

abbrev HasIdBelow : ℕ → ElementData → Type 0
HasIdBelow next_id x = (1 ≤ x.id) × (x.id < next_id)

abbrev IsOfKind : Kind → ElementData → Type 0
IsOfKind kind x = kind_of x.value ≡ kind

pub kept_by_set : (e : ElementsData) (p : Part) (value : ValueData) → kind_of value ≡ e.kind → IsElements e → IsElements (record e { list = with_part p e.list (map (with_value value) (elements_in p e.list)) })
kept_by_set e p value kind h =
    let front = take p.from e.list in
    let middle = elements_in p e.list in
    let rest = drop (p.from + p.count) e.list in
    let same_front = map-append (λ x. x.id) front (map (with_value value) middle ++ rest) in
    let same_middle = map-append (λ x. x.id) (map (with_value value) middle) rest ∙ ap (λ t. t ++ ids rest) (ids-revalued value middle) ∙ sym (map-append (λ x. x.id) middle rest) in
    let whole = sym (map-append (λ x. x.id) front (middle ++ rest)) ∙ sym (ap ids (split_between e.list p.from (p.from + p.count) (omega arith))) in
    revalued e _
    (same_front ∙ ap (λ t. ids front ++ t) same_middle ∙ whole)
    (All-append (IsOfKind e.kind) front _ (All-take (IsOfKind e.kind) p.from e.list h.same_kind)
    (All-append (IsOfKind e.kind) (map (with_value value) middle) rest (All-map (IsOfKind e.kind) (with_value value) middle (λ i d lt. kind)) (All-drop (IsOfKind e.kind) (p.from + p.count) e.list h.same_kind)))
    h

-- ---- the first value
ids-first : (kind : Kind) (list : List ElementData) (next_id : ℕ) (value : ValueData) → ids (with_first (record { kind = kind; list = list; next_id = next_id }) value).list ≡ ids list
ids-first kind [] next_id value = refl
ids-first kind (x ∷ xs) next_id value = refl

kinds-first : (kind : Kind) (list : List ElementData) (next_id : ℕ) (value : ValueData) → kind_of value ≡ kind → All (IsOfKind kind) list → All (IsOfKind kind) (with_first (record { kind = kind; list = list; next_id = next_id }) value).list
kinds-first kind [] next_id value same all = all
kinds-first kind (x ∷ xs) next_id value same all =
    All-cons (IsOfKind kind) _ xs same (All-tail (IsOfKind kind) x xs all)

pub kept_by_set_first : (e : ElementsData) (value : ValueData) → kind_of value ≡ e.kind → IsElements e → IsElements (with_first e value)
kept_by_set_first e value same h =
    revalued e _ (ids-first e.kind e.list e.next_id value) (kinds-first e.kind e.list e.next_id value same h.same_kind) h

-- ---- fewer elements
rising-without : (from n : ℕ) (list : List ElementData) → from + n ≤ length list → AllPairs (λ a b. a.id < b.id) list → AllPairs (λ a b. a.id < b.id) (without from n list)
rising-without from zero list h rising = subst (AllPairs (λ a b. a.id < b.id)) (sym (without_none from list)) rising
rising-without from (suc n) list h rising =
    let n+1 : suc n ≡ n + 1 = omega arith in
    let before = rising-without from n list (omega arith) rising in
    rw (n+1, ← without_more from n list (omega arith)) (all_pairs_remove (λ a b. a.id < b.id) (without from n list) from (omega (arith, length-without from n list (omega arith))) before)

pub kept_by_delete : (e : ElementsData) (p : Part) → p.from + p.count ≤ length e.list → IsElements e → IsElements (record e { list = with_part p e.list [] })
kept_by_delete e p within h =
    let rest = drop (p.from + p.count) e.list in
    record {
      limit = omega (arith, length-without p.from p.count e.list within, h.limit);
      same_kind = All-append (IsOfKind e.kind) (take p.from e.list) rest (All-take (IsOfKind e.kind) p.from e.list h.same_kind) (All-drop (IsOfKind e.kind) (p.from + p.count) e.list h.same_kind);
      ids = (
        rising-without p.from p.count e.list within h.ids.0,
        All-append (HasIdBelow e.next_id) (take p.from e.list) rest (All-take (HasIdBelow e.next_id) p.from e.list h.ids.1) (All-drop (HasIdBelow e.next_id) (p.from + p.count) e.list h.ids.1),
      );
      next_id = h.next_id;
    }

-- ---- one more element
pub kept_by_create : (e : ElementsData) (name : List ℕ) (value : ValueData) → kind_of value ≡ e.kind → has_room e ≡ true → IsElements e → IsElements (create e name value).elements
kept_by_create e name value same room h =
    let x : ElementData = record { name = name; id = e.next_id; value = value } in
    record {
      limit = grind (arith, tests, length_push e.list x);
      same_kind = All-push (IsOfKind e.kind) e.list x h.same_kind same;
      ids = (
        all_pairs_push (λ a b. a.id < b.id) e.list x h.ids.0 (λ i d lt. (h.ids.1 i d lt).1),
        All-push (HasIdBelow (e.next_id + 1)) e.list x (λ i d lt. (omega (arith, (h.ids.1 i d lt).0), omega (arith, (h.ids.1 i d lt).1))) (omega arith, omega arith),
      );
      next_id = (omega arith, grind (arith, tests));
    }
