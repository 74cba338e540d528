-- Fields are built one after another: their names differ as the grammar says, and what is built is what all of them make.
use Rattle.std.proofs.Common.{◌≡◌, ◌≢◌, ◌⊎◌, inl, inr, ℕ, zero, suc, ◌+◌, ◌<◌, ◌≤◌, Bool, true, false, ◌&&◌, cond, leb, ltb, List, [], ◌∷◌, ◌++◌, length, map, get_or, Option, Some, None, refl, sym, ap, ap₂, subst, ◌∙◌, append_assoc, append-nil, arith}
use Rattle.std.specs.List.{list_any}
use Rattle.std.specs.Str.{bytes_eq}
use Rattle.std.proofs.lemmas.Bool.{lt-ltb, le-ltb, le-leb, lt-leb, or_parts, or_from, false_from_ne_true, cases_lt}
use Rattle.std.proofs.lemmas.List.{length-append, length-map, map-append, get_or_at, get_or_append_left}
use Rattle.std.proofs.lemmas.Option.{same_Some}
use Rattle.std.proofs.lemmas.Slice.Eq.{bytes_eq-Decides}
use Rattle.ak_base.specs.declared.code.Code.{Code}
use Rattle.ak_base.specs.Word.{is_word}
use Rattle.ak_flatten.specs.Spelling.{spelling}
use Rattle.ak_base.specs.Option.{◌>>=◌}
use Rattle.ak_base.specs.declared.limited.Limited.{Limited}
use Rattle.ak_base.specs.declared.limited.Limited.TheVariants.{Within, Over}
use Rattle.ak_action.specs.declared.template.Given.{Given}
use Rattle.ak_action.specs.declared.template.Template.{Template}
use Rattle.ak_action.specs.declared.template.TemplateFault.{TemplateFault}
use Rattle.ak_action.specs.declared.template.TemplateFault.TheVariants as fault
use Rattle.ak_action.specs.declared.template.TemplateField.{TemplateField}
use Rattle.ak_action.specs.Template as template
use Rattle.ak_action.specs.Template.{add_fault}
use Rattle.ak_describe.specs.Actions.{Built, has_name, field_kept, with_field, named_too, field_added, written, short_template}
use Rattle.ak_describe.specs.Grammar.{FieldText, NamesDiffer, onto_field, all_fields, small_template}
use Rattle.ak_describe.specs.Made.{limited_then}
use Rattle.ak_describe.proofs.ground.Outcomes.{same_within}
use Rattle.ak_describe.proofs.ground.Seeing.{any-map}
use Rattle.ak_describe.proofs.grammar.Fields.{added_all, field_made}

abbrev pub field_names : List FieldText → List (List ℕ)
field_names fs = map (λ (f : FieldText). f.name) fs

-- over 64 fields are not kept
abbrev pub kept_fields : List FieldText → Limited (List TemplateField)
kept_fields fs = cond (leb (length fs) 64) (all_fields fs) Over

-- what is built of them
abbrev pub built : List FieldText → Built
built fs = record { names = field_names fs; fields = kept_fields fs }

abbrev pub AreNamed : List FieldText → Type 0
AreNamed [] = Unit {0}
AreNamed (f ∷ fs) = (is_word f.name ≡ true) × AreNamed fs

-- ---- all fields and one more
abbrev template_field : List ℕ → Given → TemplateField
template_field name g = record { name = name; given = g }

abbrev with_last : Limited (List TemplateField) → List ℕ → Limited Given → Limited (List TemplateField)
with_last Over name g = Over
with_last (Within fields) name Over = Over
with_last (Within fields) name (Within g) = Within (fields ++ template_field name g ∷ [])

first-push : (name : List ℕ) (content : Limited Given) → onto_field (field_made name content) (Within []) ≡ with_last (Within []) name content
first-push name Over = refl
first-push name (Within g) = refl

some-push : (first : List ℕ) (given : Limited Given) (gs : List TemplateField) (name : List ℕ) (content : Limited Given)
    → onto_field (field_made first given) (with_last (Within gs) name content) ≡ with_last (onto_field (field_made first given) (Within gs)) name content
some-push first Over gs name Over = refl
some-push first Over gs name (Within g) = refl
some-push first (Within h) gs name Over = refl
some-push first (Within h) gs name (Within g) = refl

onto-push : (e : FieldText) (o : Limited (List TemplateField)) (name : List ℕ) (content : Limited Given) → onto_field e (with_last o name content) ≡ with_last (onto_field e o) name content
onto-push e Over name content = refl
onto-push e (Within gs) name content = some-push e.name e.content gs name content

all_fields-push : (fs : List FieldText) (f : FieldText) → all_fields (fs ++ f ∷ []) ≡ with_last (all_fields fs) f.name f.content
all_fields-push [] f = first-push f.name f.content
all_fields-push (e ∷ fs) f = ap (onto_field e) (all_fields-push fs f) ∙ onto-push e (all_fields fs) f.name f.content

-- their names
abbrev template_names : List TemplateField → List (List ℕ)
template_names gs = map (λ (g : TemplateField). g.name) gs

abbrev HasNames : Limited (List TemplateField) → List (List ℕ) → Type 0
HasNames o names = (gs : List TemplateField) → o ≡ Within gs → template_names gs ≡ names

onto-names : (name : List ℕ) (content : Limited Given) (o : Limited (List TemplateField)) (names : List (List ℕ)) → HasNames o names → HasNames (onto_field (field_made name content) o) (name ∷ names)
onto-names name content Over names h gs e = absurd cc
onto-names name Over (Within others) names h gs e = absurd cc
onto-names name (Within g) (Within others) names h gs e =
    let same = same_within (template_field name g ∷ others) gs e in
    subst (λ (x : List TemplateField). template_names x ≡ name ∷ names) same (ap (λ (ns : List (List ℕ)). name ∷ ns) (h others refl))

pub all_fields-names : (fs : List FieldText) → HasNames (all_fields fs) (field_names fs)
all_fields-names [] gs e = ap template_names (sym (same_within {A = List TemplateField} [] gs e))
all_fields-names (f ∷ fs) gs e = onto-names f.name f.content (all_fields fs) (field_names fs) (all_fields-names fs) gs e

-- ---- one field more
with_again : (o : Limited (List TemplateField)) (names : List (List ℕ)) (name : List ℕ) (content : Limited Given) → is_word name ≡ true → has_name names name ≡ false → length names < 64 → HasNames o names
    → with_field o name content ≡ Some (with_last o name content)
with_again Over names name content word new room h = refl
with_again (Within gs) names name Over word new room h = refl
with_again (Within gs) names name (Within g) word new room h =
    let same = h gs refl in
    let fresh : template.has_name gs name ≡ false =
    sym (any-map (λ (t : TemplateField). t.name) (λ (other : List ℕ). bytes_eq other name) gs) ∙ ap (list_any (λ (other : List ℕ). bytes_eq other name)) same ∙ new in
    let few : ltb (length gs) 64 ≡ true = lt-ltb (length gs) 64 (omega (arith, length-map gs (λ (t : TemplateField). t.name), ap length same, room)) in
    let fine : add_fault gs name ≡ None = rw (word, fresh, few) refl in
    ap (λ (e : Option TemplateFault). field_kept e (gs ++ template_field name g ∷ [])) fine

named_again : (b : Built) (name : List ℕ) (content : Limited Given) (fields : Limited (List TemplateField)) → is_word name ≡ true → with_field b.fields name content ≡ Some fields
    → named_too b name content ≡ Some (record { names = b.names ++ name ∷ []; fields = fields })
named_again b name content fields word e = rw (word, e) refl

abbrev pub some_built : List (List ℕ) → Limited (List TemplateField) → Option Built
some_built names fields = Some (record { names = names; fields = fields })

-- where there is room
room_added : (done : List FieldText) (f : FieldText) → is_word f.name ≡ true → has_name (field_names done) f.name ≡ false → length done < 64
    → named_too (built done) f.name f.content ≡ Some (built (done ++ f ∷ []))
room_added done f word fresh room =
    let many : length (field_names done) ≡ length done = length-map done (λ (g : FieldText). g.name) in
    let more : length (done ++ f ∷ []) ≡ length done + 1 = omega (arith, length-append done (f ∷ [])) in
    let kept : kept_fields done ≡ all_fields done = ap (λ (t : Bool). cond t (all_fields done) Over) (le-leb (length done) 64 (omega (arith, room))) in
    let adds : with_field (kept_fields done) f.name f.content ≡ Some (with_last (all_fields done) f.name f.content) =
    ap (λ (o : Limited (List TemplateField)). with_field o f.name f.content) kept
    ∙ with_again (all_fields done) (field_names done) f.name f.content word fresh (omega (arith, many, room)) (all_fields-names done) in
    let names : field_names done ++ f.name ∷ [] ≡ field_names (done ++ f ∷ []) = sym (map-append (λ (g : FieldText). g.name) done (f ∷ [])) in
    let fields : with_last (all_fields done) f.name f.content ≡ kept_fields (done ++ f ∷ []) =
    sym (all_fields-push done f) ∙ ap (λ (t : Bool). cond t (all_fields (done ++ f ∷ [])) Over) (sym (le-leb (length (done ++ f ∷ [])) 64 (omega (arith, more, room)))) in
    named_again (built done) f.name f.content (with_last (all_fields done) f.name f.content) word adds ∙ ap₂ some_built names fields

-- a 65th field passes the limit
none_again : (o : Limited (List TemplateField)) (names : List (List ℕ)) (name : List ℕ) (content : Limited Given) → is_word name ≡ true → has_name names name ≡ false → 64 ≤ length names → HasNames o names
    → with_field o name content ≡ Some Over
none_again Over names name content word new full h = refl
none_again (Within gs) names name Over word new full h = refl
none_again (Within gs) names name (Within g) word new full h =
    let same = h gs refl in
    let fresh : template.has_name gs name ≡ false =
    sym (any-map (λ (t : TemplateField). t.name) (λ (other : List ℕ). bytes_eq other name) gs) ∙ ap (list_any (λ (other : List ℕ). bytes_eq other name)) same ∙ new in
    let many : ltb (length gs) 64 ≡ false = le-ltb (length gs) 64 (omega (arith, length-map gs (λ (t : TemplateField). t.name), ap length same, full)) in
    let fault : add_fault gs name ≡ Some fault.FieldLimit = rw (word, fresh, many) refl in
    ap (λ (e : Option TemplateFault). field_kept e (gs ++ template_field name g ∷ [])) fault

none_kept : (few : Bool) (o : Limited (List TemplateField)) (name : List ℕ) (content : Limited Given) → with_field o name content ≡ Some Over → with_field (cond few o Over) name content ≡ Some Over
none_kept true o name content h = h
none_kept false o name content h = refl

full_added : (done : List FieldText) (f : FieldText) → is_word f.name ≡ true → has_name (field_names done) f.name ≡ false → 64 ≤ length done
    → named_too (built done) f.name f.content ≡ Some (built (done ++ f ∷ []))
full_added done f word fresh full =
    let many : length (field_names done) ≡ length done = length-map done (λ (g : FieldText). g.name) in
    let more : length (done ++ f ∷ []) ≡ length done + 1 = omega (arith, length-append done (f ∷ [])) in
    let adds : with_field (kept_fields done) f.name f.content ≡ Some Over =
    none_kept (leb (length done) 64) (all_fields done) f.name f.content (none_again (all_fields done) (field_names done) f.name f.content word fresh (omega (arith, many, full)) (all_fields-names done)) in
    let names : field_names done ++ f.name ∷ [] ≡ field_names (done ++ f ∷ []) = sym (map-append (λ (g : FieldText). g.name) done (f ∷ [])) in
    let fields : ◌≡◌ {A = Limited (List TemplateField)} Over (kept_fields (done ++ f ∷ [])) =
    ap (λ (t : Bool). cond t (all_fields (done ++ f ∷ [])) Over) (sym (lt-leb (length (done ++ f ∷ [])) 64 (omega (arith, more, full)))) in
    named_again (built done) f.name f.content Over word adds ∙ ap₂ some_built names fields

added_one : (done : List FieldText) (f : FieldText) → is_word f.name ≡ true
    → field_added (built done) f.name f.content ≡ cond (has_name (field_names done) f.name) None (Some (built (done ++ f ∷ [])))
added_one done f word = by_use (has_name (field_names done) f.name) refl where
  by_room : has_name (field_names done) f.name ≡ false → (length done < 64) ⊎ (64 ≤ length done) → named_too (built done) f.name f.content ≡ Some (built (done ++ f ∷ []))
  by_room is (inl room) = room_added done f word is room
  by_room is (inr full) = full_added done f word is full

  by_use : (used : Bool) → has_name (field_names done) f.name ≡ used
      → cond used None (named_too (built done) f.name f.content) ≡ cond used None (Some (built (done ++ f ∷ [])))
  by_use true is = refl
  by_use false is = by_room is (cases_lt (length done) 64)

-- ---- all fields: each name is none of those before it
abbrev pub NewNames : List FieldText → List FieldText → Type 0
NewNames done [] = Unit {0}
NewNames done (f ∷ fs) = (has_name (field_names done) f.name ≡ false) × NewNames (done ++ f ∷ []) fs

abbrev built_of : List FieldText → Option Built
built_of fs = Some (built fs)

pub added_again : (fs done : List FieldText) → AreNamed fs → NewNames done fs → added_all (built done) fs ≡ Some (built (done ++ fs))
added_again [] done named new = ap built_of (sym (append-nil done))
added_again (f ∷ fs) done named new =
    let one : field_added (built done) f.name f.content ≡ Some (built (done ++ f ∷ [])) =
    added_one done f named.0 ∙ ap (λ (t : Bool). cond t None (Some (built (done ++ f ∷ [])))) new.0 in
    ap (λ (o : Option Built). o >>= λ more. added_all more fs) one ∙ added_again fs (done ++ f ∷ []) named.1 new.1 ∙ ap built_of (append_assoc done (f ∷ []) fs)

pub added_takes : (fs done : List FieldText) (c : Built) → AreNamed fs → added_all (built done) fs ≡ Some c → NewNames done fs × (c ≡ built (done ++ fs))
added_takes [] done c named e = let same = same_Some (built done) c e in (tt, sym same ∙ ap built (sym (append-nil done)))
added_takes (f ∷ fs) done c named e =
    by_use (has_name (field_names done) f.name) refl
    (ap (λ (o : Option Built). o >>= λ more. added_all more fs) (sym (added_one done f named.0)) ∙ e)
    (λ rest. added_takes fs (done ++ f ∷ []) c named.1 rest) where
      by_use : (used : Bool) → has_name (field_names done) f.name ≡ used
          → (cond used None (Some (built (done ++ f ∷ []))) >>= λ more. added_all more fs) ≡ Some c
          → (added_all (built (done ++ f ∷ [])) fs ≡ Some c → NewNames (done ++ f ∷ []) fs × (c ≡ built ((done ++ f ∷ []) ++ fs)))
          → ((has_name (field_names done) f.name ≡ false) × NewNames (done ++ f ∷ []) fs) × (c ≡ built (done ++ f ∷ fs))
      by_use true is e later = absurd cc
      by_use false is e later = let h = later e in ((is, h.0), h.1 ∙ ap built (append_assoc done (f ∷ []) fs))

-- ---- by places: no name is one of those before it
abbrev Fresh : List FieldText → List ℕ → Type 0
Fresh done name = (i : ℕ) (d : FieldText) → i < length done → (get_or done i d).name ≢ name

fresh_differs : (done : List FieldText) (name : List ℕ) → has_name (field_names done) name ≡ false → Fresh done name
fresh_differs [] name h i d within = absurd (omega arith)
fresh_differs (f ∷ done) name h zero d within =
    let parts = or_parts (bytes_eq f.name name) (has_name (field_names done) name) h in
    λ same. absurd (let yes : bytes_eq f.name name ≡ true = (bytes_eq-Decides f.name name).1 same in let no : bytes_eq f.name name ≡ false = parts.0 in cc)
fresh_differs (f ∷ done) name h (suc i) d within =
    let parts = or_parts (bytes_eq f.name name) (has_name (field_names done) name) h in
    fresh_differs done name parts.1 i d (omega arith)

differs_fresh : (done : List FieldText) (name : List ℕ) → Fresh done name → has_name (field_names done) name ≡ false
differs_fresh [] name h = refl
differs_fresh (f ∷ done) name h =
    let first : bytes_eq f.name name ≡ false = false_from_ne_true (bytes_eq f.name name) (λ t. h zero f (omega arith) ((bytes_eq-Decides f.name name).0 t)) in
    or_from (bytes_eq f.name name) (has_name (field_names done) name) first (differs_fresh done name (λ i d within. h (suc i) d (omega arith)))

abbrev Differ : List FieldText → List FieldText → Type 0
Differ done fs = (i j : ℕ) (d : FieldText) → i < j → length done ≤ j → j < length (done ++ fs) → (get_or (done ++ fs) i d).name ≢ (get_or (done ++ fs) j d).name

-- the first one behind, and those behind it
first_differs : (f : FieldText) (fs done : List FieldText) → Fresh done f.name → (i j : ℕ) (d : FieldText) → i < j → j ≡ length done → (get_or (done ++ f ∷ fs) i d).name ≢ (get_or (done ++ f ∷ fs) j d).name
first_differs f fs done h i j d lt at =
    let here : get_or (done ++ f ∷ fs) j d ≡ f = get_or_at done f fs d j (sym at) in
    let before : get_or (done ++ f ∷ fs) i d ≡ get_or done i d = get_or_append_left done (f ∷ fs) d i (omega arith) in
    λ same. h i d (omega arith) (ap (λ (g : FieldText). g.name) (sym before) ∙ same ∙ ap (λ (g : FieldText). g.name) here)

later_differs : (f : FieldText) (fs done : List FieldText) → Differ (done ++ f ∷ []) fs
    → (i j : ℕ) (d : FieldText) → i < j → length done < j → j < length (done ++ f ∷ fs) → (get_or (done ++ f ∷ fs) i d).name ≢ (get_or (done ++ f ∷ fs) j d).name
later_differs f fs done h i j d lt past within =
    let all : (done ++ f ∷ []) ++ fs ≡ done ++ f ∷ fs = append_assoc done (f ∷ []) fs in
    let differ = h i j d lt (omega (arith, length-append done (f ∷ []))) (omega (arith, ap length all)) in
    subst (λ (gs : List FieldText). (get_or gs i d).name ≢ (get_or gs j d).name) all differ

differ_at : (f : FieldText) (fs done : List FieldText) → Fresh done f.name → Differ (done ++ f ∷ []) fs → Differ done (f ∷ fs)
differ_at f fs done first rest i j d lt past within = by_place (cases_lt (length done) j) where
  by_place : (length done < j) ⊎ (j ≤ length done) → (get_or (done ++ f ∷ fs) i d).name ≢ (get_or (done ++ f ∷ fs) j d).name
  by_place (inl more) = later_differs f fs done rest i j d lt more within
  by_place (inr here) = first_differs f fs done first i j d lt (omega arith)

new_differ : (fs done : List FieldText) → NewNames done fs → Differ done fs
new_differ [] done new i j d lt past within = absurd (omega (arith, length-append done []))
new_differ (f ∷ fs) done new i j d lt past within =
    differ_at f fs done (fresh_differs done f.name new.0) (new_differ fs (done ++ f ∷ []) new.1) i j d lt past within

first_new : (f : FieldText) (fs done : List FieldText) → Differ done (f ∷ fs) → Fresh done f.name
first_new f fs done h i d within =
    let here : get_or (done ++ f ∷ fs) (length done) d ≡ f = get_or_at done f fs d (length done) refl in
    let before : get_or (done ++ f ∷ fs) i d ≡ get_or done i d = get_or_append_left done (f ∷ fs) d i within in
    let differ = h i (length done) d within (omega arith) (omega (arith, length-append done (f ∷ fs))) in
    λ same. differ (ap (λ (g : FieldText). g.name) before ∙ same ∙ ap (λ (g : FieldText). g.name) (sym here))

rest_new : (f : FieldText) (fs done : List FieldText) → Differ done (f ∷ fs) → Differ (done ++ f ∷ []) fs
rest_new f fs done h i j d lt past within =
    let all : (done ++ f ∷ []) ++ fs ≡ done ++ f ∷ fs = append_assoc done (f ∷ []) fs in
    let differ = h i j d lt (omega (arith, length-append done (f ∷ []))) (omega (arith, ap length all)) in
    subst (λ (gs : List FieldText). (get_or gs i d).name ≢ (get_or gs j d).name) (sym all) differ

differ_new : (fs done : List FieldText) → Differ done fs → NewNames done fs
differ_new [] done h = tt
differ_new (f ∷ fs) done h = (differs_fresh done f.name (first_new f fs done h), differ_new fs (done ++ f ∷ []) (rest_new f fs done h))

pub names_new : (fields : List FieldText) → NamesDiffer fields → NewNames [] fields
names_new fields h = differ_new fields [] (λ i j d lt past within. h i j d lt within)

pub new_names : (fields : List FieldText) → NewNames [] fields → NamesDiffer fields
new_names fields new i j d lt within = new_differ fields [] new i j d lt (omega arith) within

-- ---- the template of all fields
abbrev some_template : Code → List TemplateField → Bool → Limited Template
some_template what gs t = cond t (Within (record { what = what; fields = gs })) Over

kept_small : (what : Code) (count : ℕ) (gs : List TemplateField) → count ≡ length gs → limited_then (short_template what) (cond (leb count 64) (Within gs) Over) ≡ small_template what (Within gs)
kept_small what count gs same =
    ap (λ (n : ℕ). limited_then (short_template what) (cond (leb n 64) (Within gs) Over)) same ∙ by_test (leb (length gs) 64) where
      by_test : (few : Bool) → limited_then (short_template what) (cond few (Within gs) Over) ≡ some_template what gs (few && leb (length (spelling (written what gs))) 4096)
      by_test true = refl
      by_test false = refl

pub kept_template : (what : Code) (fs : List FieldText) → limited_then (short_template what) (kept_fields fs) ≡ small_template what (all_fields fs)
kept_template what fs = by_all (all_fields fs) (all_fields-names fs) where
  none_kept : (few : Bool) → limited_then (short_template what) (cond few Over Over) ≡ Over
  none_kept true = refl
  none_kept false = refl

  by_all : (o : Limited (List TemplateField)) → HasNames o (field_names fs) → limited_then (short_template what) (cond (leb (length fs) 64) o Over) ≡ small_template what o
  by_all Over h = none_kept (leb (length fs) 64)
  by_all (Within gs) h =
      kept_small what (length fs) gs (sym (length-map fs (λ (f : FieldText). f.name)) ∙ ap length (sym (h gs refl)) ∙ length-map gs (λ (g : TemplateField). g.name))
