-- What lines make of applications, but those of a next handler.
use Rattle.std.proofs.Common.{◌≡◌, ◌≢◌, ◌∙◌, ◌⊎◌, ℕ, ℤ, pos, negsuc, zero, suc, ◌-◌, ◌<◌, ◌≤◌, Bool, true, false, ◌&&◌, if◌then◌else◌, eqb, ltb, leb, List, [], ◌∷◌, ◌++◌, length, set, Option, None, Some, is_some, slice_get, codes, bytes_eq, Result, Ok, All, int_le, unsigned_abs, nat_le, refl, sym, ap, subst, inl, inr, ⊎_elim, arith, ltb-true, leb-true, le-leb}
use Rattle.std.specs.Fmt.{signed_decimal}
use Rattle.std.proofs.lemmas.Bool.{and_from, and_parts, cases_eq}
use Rattle.std.proofs.lemmas.List.{length_push, length-set}
use Rattle.std.proofs.lemmas.List.Elements.{All-nil, All-cons, All-push, All-set}
use Rattle.std.proofs.lemmas.Slice.Eq.{bytes_eq-Decides}
use Rattle.std.proofs.lemmas.Option.{same_Some}
use Rattle.ak_base.specs.declared.ending.RefusalKind.{RefusalKind}
use Rattle.ak_base.specs.Word.{is_word}
use Rattle.ak_base.specs.Option.{where_true, ◌>>=◌}
use Rattle.ak_input.specs.Payload.{int_value, int_within, uint_within}
use Rattle.ak_input.specs.Written.{number_within}
use Rattle.ak_describe.specs.declared.form.heads.AppForm.{AppForm}
use Rattle.ak_describe.specs.declared.form.heads.LooperForm.{LooperForm}
use Rattle.ak_describe.specs.declared.keyword.Keyword.{Keyword}
use Rattle.ak_describe.specs.declared.keyword.Keyword.TheVariants as key
use Rattle.ak_describe.specs.declared.named.Need.{Need}
use Rattle.ak_describe.specs.declared.named.Need.TheVariants as needs
use Rattle.ak_describe.specs.Forms.{app_form, capacity_at, capacity_behind, capacity_from, looper_form}
use Rattle.ak_describe.specs.Parts.{LooperData, AppData, has_path, looper_named, opened}
use Rattle.ak_describe.specs.Pass.{app_line, carry, carry_in_looper, in_last_looper, judged, last_item, least_capacity, looper_line, loopers_in, new_app, new_looper, on_last, open_looper_place, rows_in}
use Rattle.ak_describe.specs.Words.{behind, ends, first_of, name_at}
use Rattle.ak_describe.proofs.ground.Ends.{get_set_other}
use Rattle.ak_describe.proofs.built.Fits.{AppFits, IsNoNext, LooperFits, RowFits}
use Rattle.ak_describe.proofs.chains.Following.{next_at, next_in}
use Rattle.ak_describe.proofs.built.LooperLines.{looper_left, name_at_is_word, new_row_fits}
use Rattle.ak_describe.proofs.ground.Outcomes.{allowed, bound, changed, mapped, not_bad, same_ok, went, where_is}
use Rattle.ak_describe.proofs.ground.Places.{all_there, same_push, same_set, set_here}
use Rattle.ak_describe.proofs.built.RowLines.{IsOther}

-- the handler that is preferred
abbrev pub pref_in : Option LooperData → Option (List ℕ)
pref_in None = None
pref_in (Some l) = l.preferred

abbrev pub pref_at : List AppData → ℕ → ℕ → Option (List ℕ)
pref_at apps app looper = pref_in (slice_get (loopers_in (slice_get apps app)) looper)

-- the next handlers of a looper, and of the loopers of an application
abbrev nexts_in : Option LooperData → ℕ → Option (List ℕ)
nexts_in o i = next_in (slice_get (rows_in o) i)

abbrev nexts_inside : Option AppData → ℕ → ℕ → Option (List ℕ)
nexts_inside o x i = nexts_in (slice_get (loopers_in o) x) i

-- ---- an application
record AppLeft (a left : AppData) (need : Option Need) : Type 0 where
  fits : AppFits a → AppFits left
  nexts : (x i : ℕ) → nexts_in (slice_get left.loopers x) i ≡ nexts_in (slice_get a.loopers x) i
  no_next : IsNoNext need
  preferred : (x : ℕ) (name : List ℕ) → pref_in (slice_get left.loopers x) ≡ Some name → (pref_in (slice_get a.loopers x) ≡ Some name) ⊎ ((x ≡ length left.loopers - 1) × (need ≡ Some (needs.Handler name)))

left_is : (a : AppData) (x y : AppData × Option Need) → x ≡ y → AppLeft a x.0 x.1 → AppLeft a y.0 y.1
left_is a x y e h = subst (λ (z : AppData × Option Need). AppLeft a z.0 z.1) e h

pub set_loopers_fit : (a : AppData) (i : ℕ) (l s : LooperData) → slice_get a.loopers i ≡ Some l → (LooperFits l → LooperFits s) → AppFits a → AppFits (record a { loopers = set a.loopers i s })
set_loopers_fit a i l s at fits f =
    record {
      few = omega (arith, f.few, length-set a.loopers i s);
      loopers = All-set LooperFits a.loopers i s (fits (all_there LooperFits a.loopers i l at f.loopers)) f.loopers;
    }

-- the looper at a place is the one that was there, or the last one
looper_pref : (ls : List LooperData) (i : ℕ) (l s : LooperData) (need : Option Need) → slice_get ls i ≡ Some l → ((name : List ℕ) → s.preferred ≡ Some name → (l.preferred ≡ Some name) ⊎ (need ≡ Some (needs.Handler name)))
    → (x : ℕ) (name : List ℕ) → pref_in (slice_get (set ls i s) x) ≡ Some name → (pref_in (slice_get ls x) ≡ Some name) ⊎ ((x ≡ i) × (need ≡ Some (needs.Handler name)))
looper_pref ls i l s need at from x name is =
    ⊎_elim
    (λ (e : x ≡ i).
    ⊎_elim
    (λ (h : l.preferred ≡ Some name). inl (ap (λ n. pref_in (slice_get ls n)) e ∙ ap pref_in at ∙ h))
    (λ (h : need ≡ Some (needs.Handler name)). inr (e, h))
    (from name (sym (ap pref_in (set_here ls i l s at)) ∙ sym (ap (λ n. pref_in (slice_get (set ls i s) n)) e) ∙ is)))
    (λ (ne : x ≢ i). inl (sym (ap pref_in (get_set_other ls i x s ne)) ∙ is))
    (cases_eq x i)

abbrev pub with_loopers : AppData → List LooperData × Option Need → AppData × Option Need
with_loopers a x = (record a { loopers = x.0 }, x.1)

in_last_looper_left : (a : AppData) (keyword : Keyword) (words : List (List ℕ)) (y : AppData × Option Need) → IsOther keyword → in_last_looper a keyword words ≡ Ok y → AppLeft a y.0 y.1
in_last_looper_left a keyword words y other e =
    let t = went (on_last (λ (l : LooperData). carry_in_looper l keyword words) a.loopers) (λ (x : List LooperData × Option Need). Ok (with_loopers a x)) y e in
    let u = changed (λ (l : LooperData). carry_in_looper l keyword words) a.loopers t.value t.is in
    let l = looper_left u.old keyword words (u.new, t.value.1) other u.change_is in
    let loopers : (set a.loopers (length a.loopers - 1) u.new, t.value.1) ≡ t.value = ap (λ (ls : List LooperData). (ls, t.value.1)) (sym u.list_is) in
    let same : nexts_in (Some u.new) ≡ nexts_in (Some u.old) = λ k. λ i. l.nexts i k in
    let len : length a.loopers - 1 ≡ length (set a.loopers (length a.loopers - 1) u.new) - 1 = ap (λ n. n - 1) (sym (length-set a.loopers (length a.loopers - 1) u.new)) in
    left_is a (with_loopers a (set a.loopers (length a.loopers - 1) u.new, t.value.1)) y (ap (with_loopers a) loopers ∙ same_ok (with_loopers a t.value) y t.then_is)
    (record {
      fits = set_loopers_fit a (length a.loopers - 1) u.old u.new u.last l.fits;
      nexts = λ x i. ap (λ (f : ℕ → Option (List ℕ)). f i) (same_set nexts_in a.loopers (length a.loopers - 1) u.old u.new u.last same x);
      no_next = l.no_next;
      preferred = λ x name is.
          ⊎_elim
          (λ (h : pref_in (slice_get a.loopers x) ≡ Some name). inl h)
          (λ (h : (x ≡ length a.loopers - 1) × (t.value.1 ≡ Some (needs.Handler name))). inr (h.0 ∙ len, h.1))
          (looper_pref a.loopers (length a.loopers - 1) u.old u.new t.value.1 u.last l.preferred x name is);
    })

-- ---- a new looper
at_most : (x : ℤ) (high n : ℕ) → int_le (pos 0) x ≡ true → int_le x (pos high) ≡ true → unsigned_abs x ≡ n → n ≤ high
at_most (pos m) high n low up is = let le : m ≤ high = leb-true m high up in subst (λ k. k ≤ high) is le
at_most (negsuc m) high n low up is = absurd cc

within_at_most : (high : ℕ) (text : List ℕ) (n : ℕ) → uint_within high text ≡ Some n → n ≤ high
unfolding int_within
within_at_most high text n e =
    let t = mapped (int_within (pos 0) (pos high) text) unsigned_abs n e in
    let u = where_is (bytes_eq (signed_decimal (int_value text)) text && int_le (pos 0) (int_value text) && int_le (int_value text) (pos high)) (int_value text) t.value t.is in
    let both = and_parts (bytes_eq (signed_decimal (int_value text)) text && int_le (pos 0) (int_value text)) (int_le (int_value text) (pos high)) u.0 in
    let first = and_parts (bytes_eq (signed_decimal (int_value text)) text) (int_le (pos 0) (int_value text)) both.0 in
    at_most (int_value text) high n first.1 both.1 (ap unsigned_abs u.1 ∙ t.then_is)

abbrev Within : ℕ → Type 0
Within n = (nat_le 1 n && nat_le n 1000) ≡ true

within : (n : ℕ) → 1 ≤ n → n ≤ 1000 → Within n
within n low high = and_from (leb 1 n) (leb n 1000) (le-leb 1 n low) (le-leb n 1000 high)

number_is_within : (word : List ℕ) (least n : ℕ) → 1 ≤ least → number_within word least 1000 ≡ Some n → Within n
number_is_within word least n low e =
    let t = bound (uint_within 1000 word) (λ m. where_true (nat_le least m) m) n e in
    let u = where_is (nat_le least t.value) t.value n t.then_is in
    let le : least ≤ t.value = leb-true least t.value u.0 in
    let most : t.value ≤ 1000 = within_at_most 1000 word t.value t.is in
    subst Within u.1 (within t.value (omega arith) most)

capacity_is_within : (least : ℕ) (words : List (List ℕ)) (n : ℕ) → 1 ≤ least → capacity_at least words ≡ Some n → Within n
unfolding capacity_at
capacity_is_within least words n low e =
    let t = bound (first_of words) (λ number. where_true (ends number.1) number.0 >>= λ last. number_within last least 1000) n e in
    let u = bound (where_true (ends t.value.1) t.value.0) (λ (last : List ℕ). number_within last least 1000) n t.then_is in
    number_is_within u.value least n low u.then_is

capacity_behind_within : (least : ℕ) (o : Option (List (List ℕ))) (n : ℕ) → 1 ≤ least → capacity_behind least o ≡ Some n → Within n
capacity_behind_within least None n low e = absurd cc
capacity_behind_within least (Some words) n low e = capacity_is_within least words n low e

capacity_by : (least : ℕ) (words : List (List ℕ)) (n : ℕ) (b : Bool) → 1 ≤ least → (if b then Some 100 else capacity_behind least (behind words (codes "capacity"))) ≡ Some n → Within n
capacity_by least words n true low e = subst Within (same_Some 100 n e) (within 100 (omega arith) (omega arith))
capacity_by least words n false low e = capacity_behind_within least (behind words (codes "capacity")) n low e

capacity_from_within : (least : ℕ) (words : List (List ℕ)) (n : ℕ) → 1 ≤ least → capacity_from least words ≡ Some n → Within n
unfolding capacity_from
capacity_from_within least words n low e = capacity_by least words n (ends words) low e

form_fits : (least : ℕ) (words : List (List ℕ)) (form : LooperForm) → 1 ≤ least → looper_form least words ≡ Some form → (is_word form.name ≡ true) × Within form.capacity
unfolding looper_form
form_fits least words form low e =
    let t = bound (name_at words) (λ name. capacity_from least name.1 >>= λ capacity. Some (record { name = name.0; capacity = capacity })) form e in
    let u = bound (capacity_from least t.value.1) (λ (capacity : ℕ). Some (record { name = t.value.0; capacity = capacity })) form t.then_is in
    let same : record { name = t.value.0; capacity = u.value } ≡ form = same_Some (record { name = t.value.0; capacity = u.value }) form u.then_is in
    subst (λ (f : LooperForm). (is_word f.name ≡ true) × Within f.capacity) same (name_at_is_word words t.value t.is, capacity_from_within least t.value.1 u.value low u.is)

least_some : (b : Bool) → 1 ≤ (if b then 2 else 1)
least_some true = omega arith
least_some false = omega arith

new_looper_fits : (form : LooperForm) → is_word form.name ≡ true → Within form.capacity → LooperFits (new_looper form)
new_looper_fits form word capacity =
    record {
      capacity = capacity;
      looper = (bytes_eq-Decides form.name form.name).1 refl;
      few = omega arith;
      words = and_from (is_word form.name) true word refl;
      names_differ = refl;
      rows = All-cons RowFits (opened form.name) [] (new_row_fits form.name) (All-nil RowFits);
    }

new_nexts : (form : LooperForm) (i : ℕ) → nexts_in (Some (new_looper form)) i ≡ nexts_in None i
new_nexts form zero = refl
new_nexts form (suc i) = refl

abbrev with_looper : AppData → LooperForm → AppData × Option Need
with_looper a form = (record a { loopers = a.loopers ++ new_looper form ∷ [] }, None)

looper_line_left : (a : AppData) (words : List (List ℕ)) (y : AppData × Option Need) → looper_line a words ≡ Ok y → AppLeft a y.0 y.1
looper_line_left a words y e =
    let t = not_bad (looper_form (least_capacity a) words) (λ (form : LooperForm). judged (is_some (looper_named a.loopers form.name)) (ltb (length a.loopers) 8) (with_looper a form)) y e in
    let u = allowed (is_some (looper_named a.loopers t.value.name)) (ltb (length a.loopers) 8) (with_looper a t.value) y t.then_is in
    let room : length a.loopers < 8 = ltb-true (length a.loopers) 8 u.1 in
    let form = form_fits (least_capacity a) words t.value (least_some (eqb (length a.loopers) 0)) t.is in
    let same : nexts_in (Some (new_looper t.value)) ≡ nexts_in None = λ k. λ i. new_nexts t.value i k in
    left_is a (with_looper a t.value) y u.2
    (record {
      fits = λ f. record {
        few = omega (arith, room, length_push a.loopers (new_looper t.value));
        loopers = All-push LooperFits a.loopers (new_looper t.value) f.loopers (new_looper_fits t.value form.0 form.1);
      };
      nexts = λ x i. ap (λ (f : ℕ → Option (List ℕ)). f i) (same_push nexts_in a.loopers (new_looper t.value) same x);
      no_next = tt;
      preferred = λ x name is. inl (sym (same_push pref_in a.loopers (new_looper t.value) refl x) ∙ is);
    })

-- ---- all applications
pub record AppsLeft (apps left : List AppData) (need : Option Need) : Type 0 where
  pub fits : All AppFits apps → All AppFits left
  pub nexts : (a x i : ℕ) → next_at left a x i ≡ next_at apps a x i
  pub no_next : IsNoNext need
  pub preferred : (a x : ℕ) (name : List ℕ) → pref_at left a x ≡ Some name → (pref_at apps a x ≡ Some name) ⊎ ((a ≡ length left - 1) × (x ≡ open_looper_place left) × (need ≡ Some (needs.Handler name)))

app_pref : (apps : List AppData) (i : ℕ) (a s : AppData) (need : Option Need) → slice_get apps i ≡ Some a
    → ((x : ℕ) (name : List ℕ) → pref_in (slice_get s.loopers x) ≡ Some name → (pref_in (slice_get a.loopers x) ≡ Some name) ⊎ ((x ≡ length s.loopers - 1) × (need ≡ Some (needs.Handler name))))
    → (k x : ℕ) (name : List ℕ) → pref_at (set apps i s) k x ≡ Some name → (pref_at apps k x ≡ Some name) ⊎ ((k ≡ i) × (x ≡ length s.loopers - 1) × (need ≡ Some (needs.Handler name)))
app_pref apps i a s need at from k x name is =
    ⊎_elim
    (λ (e : k ≡ i).
    ⊎_elim
    (λ (h : pref_in (slice_get a.loopers x) ≡ Some name). inl (ap (λ n. pref_at apps n x) e ∙ ap (λ o. pref_in (slice_get (loopers_in o) x)) at ∙ h))
    (λ (h : (x ≡ length s.loopers - 1) × (need ≡ Some (needs.Handler name))). inr (e, h.0, h.1))
    (from x name (sym (ap (λ o. pref_in (slice_get (loopers_in o) x)) (set_here apps i a s at)) ∙ sym (ap (λ n. pref_at (set apps i s) n x) e) ∙ is)))
    (λ (ne : k ≢ i). inl (sym (ap (λ o. pref_in (slice_get (loopers_in o) x)) (get_set_other apps i k s ne)) ∙ is))
    (cases_eq k i)

-- the last one of a list is the one that is set there
pub last_set : {X : Type 0} (xs : List X) (x y : X) → last_item xs ≡ Some x → last_item (set xs (length xs - 1) y) ≡ Some y
last_set xs x y at =
    ap (λ n. slice_get (set xs (length xs - 1) y) (n - 1)) (length-set xs (length xs - 1) y) ∙ set_here xs (length xs - 1) x y at

in_last_left : (change : AppData → Result (AppData × Option Need) RefusalKind) (apps : List AppData) (y : List AppData × Option Need) → ((a : AppData) (z : AppData × Option Need) → change a ≡ Ok z → AppLeft a z.0 z.1)
    → on_last change apps ≡ Ok y → AppsLeft apps y.0 y.1
in_last_left change apps y each e =
    let u = changed change apps y e in
    let a = each u.old (u.new, y.1) u.change_is in
    let same : nexts_inside (Some u.new) ≡ nexts_inside (Some u.old) = λ k. λ x i. a.nexts x i k in
    let len : length apps - 1 ≡ length (set apps (length apps - 1) u.new) - 1 = ap (λ n. n - 1) (sym (length-set apps (length apps - 1) u.new)) in
    let opens : length u.new.loopers - 1 ≡ open_looper_place (set apps (length apps - 1) u.new) = ap (λ o. length (loopers_in o) - 1) (sym (last_set apps u.old u.new u.last)) in
    subst (λ (left : List AppData). AppsLeft apps left y.1) (sym u.list_is)
    (record {
      fits = λ f. All-set AppFits apps (length apps - 1) u.new (a.fits (all_there AppFits apps (length apps - 1) u.old u.last f)) f;
      nexts = λ k x i. ap (λ (f : ℕ → ℕ → Option (List ℕ)). f x i) (same_set nexts_inside apps (length apps - 1) u.old u.new u.last same k);
      no_next = a.no_next;
      preferred = λ k x name is.
          ⊎_elim
          (λ (h : pref_at apps k x ≡ Some name). inl h)
          (λ (h : (k ≡ length apps - 1) × (x ≡ length u.new.loopers - 1) × (y.1 ≡ Some (needs.Handler name))). inr (h.0 ∙ len, h.1 ∙ opens, h.2))
          (app_pref apps (length apps - 1) u.old u.new y.1 u.last a.preferred k x name is);
    })

new_app_fits : (form : AppForm) → AppFits (new_app form)
new_app_fits form = record { few = omega arith; loopers = All-nil LooperFits }

abbrev with_app : List AppData → AppForm → List AppData × Option Need
with_app apps form = (apps ++ new_app form ∷ [], None)

app_line_left : (apps : List AppData) (words : List (List ℕ)) (y : List AppData × Option Need) → app_line apps words ≡ Ok y → AppsLeft apps y.0 y.1
app_line_left apps words y e =
    let t = not_bad (app_form words) (λ (form : AppForm). judged (has_path apps form.path) (ltb (length apps) 16) (with_app apps form)) y e in
    let u = allowed (has_path apps t.value.path) (ltb (length apps) 16) (with_app apps t.value) y t.then_is in
    let left : AppsLeft apps (apps ++ new_app t.value ∷ []) None =
    record {
      fits = λ f. All-push AppFits apps (new_app t.value) f (new_app_fits t.value);
      nexts = λ k x i. ap (λ (f : ℕ → ℕ → Option (List ℕ)). f x i) (same_push nexts_inside apps (new_app t.value) refl k);
      no_next = tt;
      preferred = λ k x name is. inl (sym (same_push (λ (o : Option AppData). pref_in (slice_get (loopers_in o) x)) apps (new_app t.value) refl k) ∙ is);
    } in
    subst (λ (z : List AppData × Option Need). AppsLeft apps z.0 z.1) u.2 left

-- ---- any line but that of a next handler
pub apps_left : (apps : List AppData) (keyword : Keyword) (words : List (List ℕ)) (y : List AppData × Option Need) → IsOther keyword → carry apps keyword words ≡ Ok y → AppsLeft apps y.0 y.1
apps_left apps key.App words y h e = app_line_left apps words y e
apps_left apps key.Looper words y h e = in_last_left (λ (a : AppData). looper_line a words) apps y (λ a. looper_line_left a words) e
apps_left apps key.Next words y h e = absurd h
apps_left apps key.Hook words y h e = in_last_left (λ (a : AppData). in_last_looper a key.Hook words) apps y (λ a z. in_last_looper_left a key.Hook words z h) e
apps_left apps key.Prefer words y h e = in_last_left (λ (a : AppData). in_last_looper a key.Prefer words) apps y (λ a z. in_last_looper_left a key.Prefer words z h) e
apps_left apps key.Common words y h e = in_last_left (λ (a : AppData). in_last_looper a key.Common words) apps y (λ a z. in_last_looper_left a key.Common words z h) e
apps_left apps key.Handler words y h e = in_last_left (λ (a : AppData). in_last_looper a key.Handler words) apps y (λ a z. in_last_looper_left a key.Handler words z h) e
apps_left apps key.Suite words y h e = in_last_left (λ (a : AppData). in_last_looper a key.Suite words) apps y (λ a z. in_last_looper_left a key.Suite words z h) e
apps_left apps key.Filter words y h e = in_last_left (λ (a : AppData). in_last_looper a key.Filter words) apps y (λ a z. in_last_looper_left a key.Filter words z h) e
apps_left apps key.Property words y h e = in_last_left (λ (a : AppData). in_last_looper a key.Property words) apps y (λ a z. in_last_looper_left a key.Property words z h) e
apps_left apps key.Element words y h e = in_last_left (λ (a : AppData). in_last_looper a key.Element words) apps y (λ a z. in_last_looper_left a key.Element words z h) e
apps_left apps key.On words y h e = in_last_left (λ (a : AppData). in_last_looper a key.On words) apps y (λ a z. in_last_looper_left a key.On words z h) e
apps_left apps key.Reply words y h e = in_last_left (λ (a : AppData). in_last_looper a key.Reply words) apps y (λ a z. in_last_looper_left a key.Reply words z h) e
apps_left apps key.Post words y h e = in_last_left (λ (a : AppData). in_last_looper a key.Post words) apps y (λ a z. in_last_looper_left a key.Post words z h) e
apps_left apps key.Ask words y h e = in_last_left (λ (a : AppData). in_last_looper a key.Ask words) apps y (λ a z. in_last_looper_left a key.Ask words z h) e
apps_left apps key.Set words y h e = in_last_left (λ (a : AppData). in_last_looper a key.Set words) apps y (λ a z. in_last_looper_left a key.Set words z h) e
apps_left apps key.Add words y h e = in_last_left (λ (a : AppData). in_last_looper a key.Add words) apps y (λ a z. in_last_looper_left a key.Add words z h) e
apps_left apps key.Drop words y h e = in_last_left (λ (a : AppData). in_last_looper a key.Drop words) apps y (λ a z. in_last_looper_left a key.Drop words z h) e
apps_left apps key.Quit words y h e = in_last_left (λ (a : AppData). in_last_looper a key.Quit words) apps y (λ a z. in_last_looper_left a key.Quit words z h) e
