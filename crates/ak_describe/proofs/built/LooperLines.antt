-- What the lines of a looper make of it.
use Rattle.std.proofs.Common.{◌≡◌, ◌∙◌, ◌⊎◌, ℕ, zero, suc, ◌-◌, ◌<◌, Bool, true, false, not, ◌&&◌, ◌||◌, if◌then◌else◌, eqb, ltb, List, [], ◌∷◌, ◌++◌, length, set, Option, None, Some, is_some, is_none, slice_get, option_map, bytes_eq, Ok, Err, refl, sym, ap, subst, inl, inr, arith, ltb-true}
use Rattle.std.specs.List.{list_any}
use Rattle.std.specs.Cmp.Lexicographic.{nat_list_eq_equiv}
use Rattle.std.proofs.lemmas.Bool.{and_from, and_parts, or_parts, or_from}
use Rattle.std.proofs.lemmas.List.{length_push, length-set}
use Rattle.std.proofs.lemmas.List.Elements.{All-push, All-set}
use Rattle.std.proofs.lemmas.Option.{same_Some}
use Rattle.ak_base.specs.declared.ending.RefusalKind.TheVariants as refusal
use Rattle.ak_base.specs.Word.{is_word}
use Rattle.ak_filter.specs.declared.filter.Filter.{Filter}
use Rattle.ak_action.proofs.Surface.{found_any}
use Rattle.ak_base.proofs.Surface.{is_some-position}
use Rattle.ak_base.specs.Option.{where_true, ◌>>=◌}
use Rattle.ak_action.specs.declared.plan.PlanRow.{PlanRow}
use Rattle.ak_action.specs.Plan.{begin_with_looper, names_are_words, names_differ, place_named}
use Rattle.ak_describe.specs.declared.keyword.Keyword.{Keyword}
use Rattle.ak_describe.specs.declared.keyword.Keyword.TheVariants as key
use Rattle.ak_describe.specs.declared.named.Need.{Need}
use Rattle.ak_describe.specs.declared.named.Need.TheVariants as needs
use Rattle.ak_describe.specs.Described.{plan_rows}
use Rattle.ak_describe.specs.Forms.{filter_form, hook_form}
use Rattle.ak_describe.specs.Named.{need_of_filter}
use Rattle.ak_describe.specs.Parts.{RowData, LooperData, opened, row_named}
use Rattle.ak_describe.specs.Pass.{carry_in_looper, carry_in_row, common_line, handler_line, in_last_row, judged, on_last, prefer_line}
use Rattle.ak_describe.specs.Words.{ends, first_of, name_at, name_of, only_name}
use Rattle.ak_describe.proofs.built.Fits.{IsNoNext, LooperFits, RowFits}
use Rattle.ak_describe.proofs.chains.Following.{next_in}
use Rattle.ak_describe.proofs.ground.Outcomes.{allowed, bound, changed, not_bad, same_ok, went, where_is}
use Rattle.ak_describe.proofs.ground.Places.{all_there, same_push, same_set}
use Rattle.ak_describe.proofs.built.RowLines.{IsOther, no_next_handler, row_left}

abbrev pub looper_nexts : LooperData → ℕ → Option (List ℕ)
looper_nexts l i = next_in (slice_get l.rows i)

pub record LooperLeft (l left : LooperData) (need : Option Need) : Type 0 where
  pub fits : LooperFits l → LooperFits left
  pub nexts : (i : ℕ) → looper_nexts left i ≡ looper_nexts l i
  pub no_next : IsNoNext need
  -- it prefers the one that it preferred, or the one that the line names
  pub preferred : (name : List ℕ) → left.preferred ≡ Some name → (l.preferred ≡ Some name) ⊎ (need ≡ Some (needs.Handler name))

left_is : (l : LooperData) (x y : LooperData × Option Need) → x ≡ y → LooperLeft l x.0 x.1 → LooperLeft l y.0 y.1
left_is l x y e h = subst (λ (z : LooperData × Option Need). LooperLeft l z.0 z.1) e h

-- ---- names
-- a name that is read is a word
pub name_at_is_word : (words : List (List ℕ)) (y : List ℕ × List (List ℕ)) → name_at words ≡ Some y → is_word y.0 ≡ true
unfolding name_at
name_at_is_word words y e =
    let t = bound (first_of words) (λ first. name_of first.0 >>= λ name. Some (name, first.1)) y e in
    let u = bound (name_of t.value.0) (λ (name : List ℕ). Some (name, t.value.1)) y t.then_is in
    let w = where_is (is_word t.value.0) t.value.0 u.value u.is in
    let same : (u.value, t.value.1) ≡ y = same_Some (u.value, t.value.1) y u.then_is in
    subst (λ (z : List ℕ × List (List ℕ)). is_word z.0 ≡ true) same (subst (λ n. is_word n ≡ true) w.1 w.0)

pub name_is_word : (words : List (List ℕ)) (name : List ℕ) → only_name words ≡ Some name → is_word name ≡ true
unfolding only_name
name_is_word words name e =
    let t = bound (name_at words) (λ (n : List ℕ × List (List ℕ)). where_true (ends n.1) n.0) name e in
    let u = where_is (ends t.value.1) t.value.0 name t.then_is in
    subst (λ n. is_word n ≡ true) u.1 (name_at_is_word words t.value t.is)

pub is_there : (rows : List PlanRow) (name : List ℕ) → is_some (place_named rows name) ≡ list_any (λ row. bytes_eq row.name name) rows
is_there rows name =
    is_some-position (λ (row : PlanRow). bytes_eq row.name name) rows ∙ found_any (λ (row : PlanRow). bytes_eq row.name name) rows

-- ---- one handler is another of that name
words_set : (rows : List RowData) (i : ℕ) (r s : RowData) → slice_get rows i ≡ Some r → s.name ≡ r.name → names_are_words (plan_rows (set rows i s)) ≡ names_are_words (plan_rows rows)
words_set [] i r s at same = refl
words_set (x ∷ rows) zero r s at same =
    let is : x ≡ r = cc in
    ap (λ (name : List ℕ). is_word name && names_are_words (plan_rows rows)) (same ∙ sym (ap (λ (z : RowData). z.name) is))
words_set (x ∷ rows) (suc i) r s at same = ap (λ b. is_word x.name && b) (words_set rows i r s at same)

any_set : (rows : List RowData) (i : ℕ) (r s : RowData) (name : List ℕ) → slice_get rows i ≡ Some r → s.name ≡ r.name
    → list_any (λ (row : PlanRow). bytes_eq row.name name) (plan_rows (set rows i s)) ≡ list_any (λ (row : PlanRow). bytes_eq row.name name) (plan_rows rows)
any_set [] i r s name at same = refl
any_set (x ∷ rows) zero r s name at same =
    let is : x ≡ r = cc in
    ap (λ (n : List ℕ). bytes_eq n name || list_any (λ (row : PlanRow). bytes_eq row.name name) (plan_rows rows)) (same ∙ sym (ap (λ (z : RowData). z.name) is))
any_set (x ∷ rows) (suc i) r s name at same = ap (λ b. bytes_eq x.name name || b) (any_set rows i r s name at same)

there_set : (rows : List RowData) (i : ℕ) (r s : RowData) (name : List ℕ) → slice_get rows i ≡ Some r → s.name ≡ r.name → is_some (place_named (plan_rows (set rows i s)) name) ≡ is_some (place_named (plan_rows rows) name)
there_set rows i r s name at same =
    is_there (plan_rows (set rows i s)) name ∙ any_set rows i r s name at same ∙ sym (is_there (plan_rows rows) name)

abbrev differ_if : Bool → Bool → Bool
differ_if b others = if b then false else others

differ_set : (rows : List RowData) (i : ℕ) (r s : RowData) → slice_get rows i ≡ Some r → s.name ≡ r.name → names_differ (plan_rows (set rows i s)) ≡ names_differ (plan_rows rows)
differ_set [] i r s at same = refl
differ_set (x ∷ rows) zero r s at same =
    let is : x ≡ r = cc in
    ap (λ (name : List ℕ). differ_if (is_some (place_named (plan_rows rows) name)) (names_differ (plan_rows rows))) (same ∙ sym (ap (λ (z : RowData). z.name) is))
differ_set (x ∷ rows) (suc i) r s at same =
    ap (λ b. differ_if b (names_differ (plan_rows (set rows i s)))) (there_set rows i r s x.name at same)
    ∙ ap (differ_if (is_some (place_named (plan_rows rows) x.name))) (differ_set rows i r s at same)

-- the first one is still the looper, where it has no next one
begins_by : (x : RowData) (name : List ℕ) (s : RowData) → s.name ≡ x.name → is_none s.next ≡ is_none x.next → (is_none s.next && bytes_eq s.name name) ≡ (is_none x.next && bytes_eq x.name name)
begins_by x name s same next = ap (λ b. b && bytes_eq s.name name) next ∙ ap (λ (n : List ℕ). is_none x.next && bytes_eq n name) same

begins_set : (rows : List RowData) (i : ℕ) (r s : RowData) (name : List ℕ) → slice_get rows i ≡ Some r → s.name ≡ r.name → (i ≡ 0 → is_none s.next ≡ is_none r.next)
    → begin_with_looper (plan_rows (set rows i s)) name ≡ begin_with_looper (plan_rows rows) name
begins_set [] i r s name at same next = refl
begins_set (x ∷ rows) zero r s name at same next =
    let is : x ≡ r = cc in
    begins_by x name s (same ∙ sym (ap (λ (z : RowData). z.name) is)) (next refl ∙ sym (ap (λ (z : RowData). is_none z.next) is))
begins_set (x ∷ rows) (suc i) r s name at same next = refl

pub set_fits : (l : LooperData) (i : ℕ) (r s : RowData) → slice_get l.rows i ≡ Some r → s.name ≡ r.name → (i ≡ 0 → is_none s.next ≡ is_none r.next) → (RowFits r → RowFits s) → LooperFits l → LooperFits (record l { rows = set l.rows i s })
set_fits l i r s at name next fits f =
    record {
      capacity = f.capacity;
      looper = begins_set l.rows i r s l.name at name next ∙ f.looper;
      few = omega (arith, f.few, length-set l.rows i s);
      words = words_set l.rows i r s at name ∙ f.words;
      names_differ = differ_set l.rows i r s at name ∙ f.names_differ;
      rows = All-set RowFits l.rows i s (fits (all_there RowFits l.rows i r at f.rows)) f.rows;
    }

-- ---- one handler more
pub new_row_fits : (name : List ℕ) → RowFits (opened name)
new_row_fits name = record { suites = omega arith; properties = omega arith; reactions = omega arith; names_differ = refl; kinds_fit = refl; actions_fit = refl }

words_push : (rows : List RowData) (name : List ℕ) → is_word name ≡ true → names_are_words (plan_rows rows) ≡ true → names_are_words (plan_rows (rows ++ opened name ∷ [])) ≡ true
words_push [] name word e = and_from (is_word name) true word refl
words_push (r ∷ rows) name word e =
    let both = and_parts (is_word r.name) (names_are_words (plan_rows rows)) e in
    and_from (is_word r.name) (names_are_words (plan_rows (rows ++ opened name ∷ []))) both.0 (words_push rows name word both.1)

abbrev pub any_called : List RowData → List ℕ → Bool
any_called rows name = list_any (λ (row : PlanRow). bytes_eq row.name name) (plan_rows rows)

any_push : (rows : List RowData) (new name : List ℕ) → any_called rows name ≡ false → bytes_eq new name ≡ false → any_called (rows ++ opened new ∷ []) name ≡ false
any_push [] new name e other = or_from (bytes_eq new name) false other refl
any_push (r ∷ rows) new name e other =
    let both = or_parts (bytes_eq r.name name) (any_called rows name) e in
    or_from (bytes_eq r.name name) (any_called (rows ++ opened new ∷ []) name) both.0 (any_push rows new name both.1 other)

first_apart : (b t : Bool) → differ_if b t ≡ true → (b ≡ false) × (t ≡ true)
first_apart true t e = absurd cc
first_apart false t e = (refl, e)

differ_push : (rows : List RowData) (new : List ℕ) → any_called rows new ≡ false → names_differ (plan_rows rows) ≡ true → names_differ (plan_rows (rows ++ opened new ∷ [])) ≡ true
differ_push [] new none e = refl
differ_push (r ∷ rows) new none e =
    let free = or_parts (bytes_eq r.name new) (any_called rows new) none in
    let both = first_apart (is_some (place_named (plan_rows rows) r.name)) (names_differ (plan_rows rows)) e in
    ap (λ b. differ_if b (names_differ (plan_rows (rows ++ opened new ∷ []))))
    (is_there (plan_rows (rows ++ opened new ∷ [])) r.name ∙ any_push rows new r.name (sym (is_there (plan_rows rows) r.name) ∙ both.0) (nat_list_eq_equiv.symm new r.name ∙ free.0))
    ∙ differ_push rows new free.1 both.1

begins_push : (rows : List RowData) (name new : List ℕ) → begin_with_looper (plan_rows rows) name ≡ true → begin_with_looper (plan_rows (rows ++ opened new ∷ [])) name ≡ true
begins_push [] name new e = absurd cc
begins_push (r ∷ rows) name new e = e

pub called_named : (rows : List RowData) (name : List ℕ) → is_some (row_named rows name) ≡ any_called rows name
called_named rows name = is_some-position (λ (r : RowData). bytes_eq r.name name) rows ∙ found_any (λ (r : RowData). bytes_eq r.name name) rows ∙ by_rows rows
  where
    by_rows : (rs : List RowData) → list_any (λ (r : RowData). bytes_eq r.name name) rs ≡ any_called rs name
    by_rows [] = refl
    by_rows (r ∷ rs) = ap (λ b. bytes_eq r.name name || b) (by_rows rs)

abbrev with_handler : LooperData → List ℕ → LooperData × Option Need
with_handler l name = (record l { rows = l.rows ++ opened name ∷ [] }, None)

handler_line_left : (l : LooperData) (words : List (List ℕ)) (y : LooperData × Option Need) → handler_line l words ≡ Ok y → LooperLeft l y.0 y.1
handler_line_left l words y e =
    let t = not_bad (only_name words) (λ (name : List ℕ). judged (is_some (row_named l.rows name)) (ltb (length l.rows) 64) (with_handler l name)) y e in
    let u = allowed (is_some (row_named l.rows t.value)) (ltb (length l.rows) 64) (with_handler l t.value) y t.then_is in
    let room : length l.rows < 64 = ltb-true (length l.rows) 64 u.1 in
    left_is l (with_handler l t.value) y u.2
    (record {
      fits = λ f. record {
        capacity = f.capacity;
        looper = begins_push l.rows l.name t.value f.looper;
        few = omega (arith, room, length_push l.rows (opened t.value));
        words = words_push l.rows t.value (name_is_word words t.value t.is) f.words;
        names_differ = differ_push l.rows t.value (sym (called_named l.rows t.value) ∙ u.0) f.names_differ;
        rows = All-push RowFits l.rows (opened t.value) f.rows (new_row_fits t.value);
      };
      nexts = same_push next_in l.rows (opened t.value) refl;
      no_next = tt;
      preferred = λ name is. inl is;
    })

-- ---- lines of the looper itself
hook_line_left : (l : LooperData) (words : List (List ℕ)) (y : LooperData × Option Need) (b : Bool) → (if b then Ok (record l { quit_refused = true }, None) else Err refusal.BadValue) ≡ Ok y → LooperLeft l y.0 y.1
hook_line_left l words y true e =
    left_is l (record l { quit_refused = true }, None) y (same_ok (record l { quit_refused = true }, None) y e)
    (record {
      fits = λ f. record { capacity = f.capacity; looper = f.looper; few = f.few; words = f.words; names_differ = f.names_differ; rows = f.rows };
      nexts = λ i. refl;
      no_next = tt;
      preferred = λ name is. inl is;
    })
hook_line_left l words y false e = absurd cc

prefer_line_left : (l : LooperData) (words : List (List ℕ)) (y : LooperData × Option Need) → prefer_line l words ≡ Ok y → LooperLeft l y.0 y.1
prefer_line_left l words y e =
    let t = not_bad (only_name words) (λ (name : List ℕ). Ok (record l { preferred = Some name }, Some (needs.Handler name))) y e in
    left_is l (record l { preferred = Some t.value }, Some (needs.Handler t.value)) y (same_ok (record l { preferred = Some t.value }, Some (needs.Handler t.value)) y t.then_is)
    (record {
      fits = λ f. record { capacity = f.capacity; looper = f.looper; few = f.few; words = f.words; names_differ = f.names_differ; rows = f.rows };
      nexts = λ i. refl;
      no_next = tt;
      preferred = λ name is. inr (ap (λ (o : Option (List ℕ)). option_map needs.Handler o) is);
    })

abbrev with_common : LooperData → Filter → LooperData × Option Need
with_common l f = (record l { common = l.common ++ f ∷ [] }, need_of_filter f)

common_line_left : (l : LooperData) (words : List (List ℕ)) (y : LooperData × Option Need) → common_line l words ≡ Ok y → LooperLeft l y.0 y.1
common_line_left l words y e =
    let t = not_bad (filter_form words) (λ (f : Filter). judged false (not (eqb (length l.common) 32)) (with_common l f)) y e in
    let u = allowed false (not (eqb (length l.common) 32)) (with_common l t.value) y t.then_is in
    left_is l (with_common l t.value) y u.2
    (record {
      fits = λ f. record { capacity = f.capacity; looper = f.looper; few = f.few; words = f.words; names_differ = f.names_differ; rows = f.rows };
      nexts = λ i. refl;
      no_next = no_next_handler t.value.to;
      preferred = λ name is. inl is;
    })

-- ---- lines of its last handler
abbrev pub with_rows : LooperData → List RowData × Option Need → LooperData × Option Need
with_rows l x = (record l { rows = x.0 }, x.1)

in_last_row_left : (l : LooperData) (keyword : Keyword) (words : List (List ℕ)) (y : LooperData × Option Need) → IsOther keyword → in_last_row l keyword words ≡ Ok y → LooperLeft l y.0 y.1
in_last_row_left l keyword words y other e =
    let t = went (on_last (λ (r : RowData). carry_in_row r keyword words) l.rows) (λ (x : List RowData × Option Need). Ok (with_rows l x)) y e in
    let u = changed (λ (r : RowData). carry_in_row r keyword words) l.rows t.value t.is in
    let r = row_left u.old keyword words (u.new, t.value.1) other u.change_is in
    let rows : (set l.rows (length l.rows - 1) u.new, t.value.1) ≡ t.value = ap (λ (rs : List RowData). (rs, t.value.1)) (sym u.list_is) in
    left_is l (with_rows l (set l.rows (length l.rows - 1) u.new, t.value.1)) y (ap (with_rows l) rows ∙ same_ok (with_rows l t.value) y t.then_is)
    (record {
      fits = set_fits l (length l.rows - 1) u.old u.new u.last r.name (λ _. ap is_none r.next) r.fits;
      nexts = same_set next_in l.rows (length l.rows - 1) u.old u.new u.last r.next;
      no_next = r.no_next;
      preferred = λ name is. inl is;
    })

-- ---- any line but that of a next handler
pub looper_left : (l : LooperData) (keyword : Keyword) (words : List (List ℕ)) (y : LooperData × Option Need) → IsOther keyword → carry_in_looper l keyword words ≡ Ok y → LooperLeft l y.0 y.1
looper_left l key.Hook words y h e = hook_line_left l words y (hook_form words) e
looper_left l key.Prefer words y h e = prefer_line_left l words y e
looper_left l key.Common words y h e = common_line_left l words y e
looper_left l key.Handler words y h e = handler_line_left l words y e
looper_left l key.Next words y h e = absurd h
looper_left l key.Suite words y h e = in_last_row_left l key.Suite words y h e
looper_left l key.Filter words y h e = in_last_row_left l key.Filter words y h e
looper_left l key.Property words y h e = in_last_row_left l key.Property words y h e
looper_left l key.Element words y h e = in_last_row_left l key.Element words y h e
looper_left l key.On words y h e = in_last_row_left l key.On words y h e
looper_left l key.App words y h e = in_last_row_left l key.App words y h e
looper_left l key.Looper words y h e = in_last_row_left l key.Looper words y h e
looper_left l key.Reply words y h e = in_last_row_left l key.Reply words y h e
looper_left l key.Post words y h e = in_last_row_left l key.Post words y h e
looper_left l key.Ask words y h e = in_last_row_left l key.Ask words y h e
looper_left l key.Set words y h e = in_last_row_left l key.Set words y h e
looper_left l key.Add words y h e = in_last_row_left l key.Add words y h e
looper_left l key.Drop words y h e = in_last_row_left l key.Drop words y h e
looper_left l key.Quit words y h e = in_last_row_left l key.Quit words y h e
