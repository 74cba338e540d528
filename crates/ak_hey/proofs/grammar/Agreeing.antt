-- Values fit together, one after another, where any two of one name have one kind.
use Rattle.std.proofs.Common.{◌≡◌, ℕ, Bool, true, false, cond, List, [], ◌∷◌, ◌++◌, Option, Some, None, refl, sym, ap, ◌∙◌}
use Rattle.std.specs.Prelude.{codes}
use Rattle.std.specs.Str.{bytes_eq}
use Rattle.std.proofs.lemmas.Bool.{eq-eqb}
use Rattle.std.proofs.lemmas.Slice.Eq.{bytes_eq-Decides}
use Rattle.ak_base.specs.Option.{where_true, ◌>>=◌}
use Rattle.ak_base.specs.declared.code.Code.{Code}
use Rattle.ak_base.proofs.Surface.{bind_some, cond_some}
use Rattle.ak_message.specs.declared.kind.Kind.{Kind}
use Rattle.ak_message.specs.declared.kind.Kind.TheVariants as k
use Rattle.ak_message.specs.Kind.{code_of_kind, is_same_kind, same_kind-is}
use Rattle.ak_input.specs.Reading.{Got, fits, with_value}
use Rattle.ak_hey.specs.Draft.{DraftData, new_draft, kind_named, with_kind, noted, with_specifier, with_got}
use Rattle.ak_hey.specs.Grammar.{SpecText, FieldText, with_specs, with_fields, with_data_field}
use Rattle.ak_hey.specs.Kindred.{spec_kinds, data_kinds, field_kinds, all_kinds, AgreesWith, Agree, OneKindEach}
use Rattle.ak_hey.proofs.grammar.Keys.{eq_of, same_bytes}

abbrev Kinds : Type 0
Kinds = List (List ℕ × Kind)

-- ---- the kind of a name, once another was noted
found_when : (test : Bool) (kind : Kind) (other : Option Kind) → test ≡ true → cond test (Some kind) other ≡ Some kind
found_when true kind other e = refl
found_when false kind other e = absurd cc

named_same : (kinds : Kinds) (name : List ℕ) (kind : Kind) → kind_named (with_kind kinds name kind) name ≡ Some kind
named_same [] name kind = found_when (bytes_eq name name) kind None (same_bytes name)
named_same (e ∷ kinds) name kind = by_name (bytes_eq name e.0) refl (named_same kinds name kind) where
  by_name : (same : Bool) → bytes_eq name e.0 ≡ same → kind_named (with_kind kinds name kind) name ≡ Some kind → kind_named (cond same ((e.0, kind) ∷ kinds) (e ∷ with_kind kinds name kind)) name ≡ Some kind
  by_name true is later = found_when (bytes_eq name e.0) kind (kind_named kinds name) is
  by_name false is later = ap (λ (t : Bool). cond t (Some e.1) (kind_named (with_kind kinds name kind) name)) is ∙ later

-- the test is false where the names differ
names_differ : (a b : List ℕ) → (a ≡ b → ⊥) → bytes_eq a b ≡ false
names_differ a b differ = by_test (bytes_eq a b) refl where
  by_test : (test : Bool) → bytes_eq a b ≡ test → bytes_eq a b ≡ false
  by_test true e = absurd (differ (eq_of a b e))
  by_test false e = e

named_other : (kinds : Kinds) (name other : List ℕ) (kind : Kind) → (other ≡ name → ⊥) → kind_named (with_kind kinds name kind) other ≡ kind_named kinds other
named_other [] name other kind differ = ap (λ (t : Bool). cond t (Some kind) None) (names_differ other name differ)
named_other (e ∷ kinds) name other kind differ = by_name (bytes_eq name e.0) refl (named_other kinds name other kind differ) where
  by_name : (same : Bool) → bytes_eq name e.0 ≡ same → kind_named (with_kind kinds name kind) other ≡ kind_named kinds other
      → kind_named (cond same ((e.0, kind) ∷ kinds) (e ∷ with_kind kinds name kind)) other ≡ kind_named (e ∷ kinds) other
  by_name true is later =
      let none = names_differ other e.0 (λ h. differ (h ∙ sym (eq_of name e.0 is))) in
      ap (λ (t : Bool). cond t (Some kind) (kind_named kinds other)) none ∙ sym (ap (λ (t : Bool). cond t (Some e.1) (kind_named kinds other)) none)
  by_name false is later = ap (λ (o : Option Kind). cond (bytes_eq other e.0) (Some e.1) o) later

-- ---- one after another
abbrev FitsIn : Kinds → List ℕ × Kind → Type 0
FitsIn kinds x = fits (kind_named kinds x.0) x.1 ≡ true

abbrev FitIn : Kinds → Kinds → Type 0
FitIn kinds [] = Unit {0}
FitIn kinds (x ∷ xs) = FitsIn kinds x × FitIn kinds xs

abbrev noted_all : Kinds → Kinds → Option Kinds
noted_all kinds [] = Some kinds
noted_all kinds (x ∷ xs) = noted kinds x.0 x.1 >>= λ more. noted_all more xs

same_kind : (a b : Kind) → a ≡ b → is_same_kind a b ≡ true
same_kind a b e = eq-eqb (code_of_kind a) (code_of_kind b) (ap code_of_kind e)

-- a value fits behind one more where it fits before, and agrees with that one
fits_behind : (kinds : Kinds) (x y : List ℕ × Kind) → FitsIn kinds y → (x.0 ≡ y.0 → x.1 ≡ y.1) → FitsIn (with_kind kinds x.0 x.1) y
fits_behind kinds x y fit agree = by_name (bytes_eq y.0 x.0) refl where
  by_name : (same : Bool) → bytes_eq y.0 x.0 ≡ same → FitsIn (with_kind kinds x.0 x.1) y
  by_name true is =
      let one = eq_of y.0 x.0 is in
      ap (λ (o : Option Kind). fits o y.1) (ap (kind_named (with_kind kinds x.0 x.1)) one ∙ named_same kinds x.0 x.1) ∙ same_kind y.1 x.1 (sym (agree (sym one)))
  by_name false is = ap (λ (o : Option Kind). fits o y.1) (named_other kinds x.0 y.0 x.1 (λ h. differs (sym ((bytes_eq-Decides y.0 x.0).1 h) ∙ is))) ∙ fit where
    differs : true ≡ false → ⊥
    differs h = cc

fit_behind : (kinds : Kinds) (x : List ℕ × Kind) (xs : Kinds) → FitIn kinds xs → AgreesWith x xs → FitIn (with_kind kinds x.0 x.1) xs
fit_behind kinds x [] fit agree = tt
fit_behind kinds x (y ∷ ys) fit agree = (fits_behind kinds x y fit.0 agree.0, fit_behind kinds x ys fit.1 agree.1)

-- and the other way round
fits_before : (kinds : Kinds) (x y : List ℕ × Kind) → FitsIn kinds x → FitsIn (with_kind kinds x.0 x.1) y → FitsIn kinds y × (x.0 ≡ y.0 → x.1 ≡ y.1)
fits_before kinds x y first fit = by_name (bytes_eq y.0 x.0) refl where
  agreed : y.0 ≡ x.0 → y.1 ≡ x.1
  agreed one = same_kind-is y.1 x.1 (sym (ap (λ (o : Option Kind). fits o y.1) (ap (kind_named (with_kind kinds x.0 x.1)) one ∙ named_same kinds x.0 x.1)) ∙ fit)

  by_name : (same : Bool) → bytes_eq y.0 x.0 ≡ same → FitsIn kinds y × (x.0 ≡ y.0 → x.1 ≡ y.1)
  by_name true is =
      let one = eq_of y.0 x.0 is in
      (ap (λ (name : List ℕ). fits (kind_named kinds name) y.1) one ∙ ap (λ (kind : Kind). fits (kind_named kinds x.0) kind) (agreed one) ∙ first, λ h. sym (agreed (sym h)))
  by_name false is =
      let differ = λ (h : y.0 ≡ x.0). differs (sym ((bytes_eq-Decides y.0 x.0).1 h) ∙ is) in
      (sym (ap (λ (o : Option Kind). fits o y.1) (named_other kinds x.0 y.0 x.1 differ)) ∙ fit, λ h. absurd (differ (sym h))) where
        differs : true ≡ false → ⊥
        differs h = cc

fit_before : (kinds : Kinds) (x : List ℕ × Kind) (xs : Kinds) → FitsIn kinds x → FitIn (with_kind kinds x.0 x.1) xs → FitIn kinds xs × AgreesWith x xs
fit_before kinds x [] first fit = (tt, tt)
fit_before kinds x (y ∷ ys) first fit =
    let one = fits_before kinds x y first fit.0 in
    let others = fit_before kinds x ys first fit.1 in
    ((one.0, others.0), (one.1, others.1))

all_noted : (kinds xs : Kinds) → FitIn kinds xs → Agree xs → (after : Kinds) × (noted_all kinds xs ≡ Some after)
all_noted kinds [] fit agree = (kinds, refl)
all_noted kinds (x ∷ xs) fit agree =
    let later = all_noted (with_kind kinds x.0 x.1) xs (fit_behind kinds x xs fit.1 agree.0) agree.1 in
    (later.0, ap (λ (t : Bool). where_true t (with_kind kinds x.0 x.1) >>= λ more. noted_all more xs) fit.0 ∙ later.1)

noted_agree : (kinds xs after : Kinds) → noted_all kinds xs ≡ Some after → FitIn kinds xs × Agree xs
noted_agree kinds [] after e = (tt, tt)
noted_agree kinds (x ∷ xs) after e =
    let b = bind_some (noted kinds x.0 x.1) (λ more. noted_all more xs) after e in
    let t = cond_some (fits (kind_named kinds x.0) x.1) (with_kind kinds x.0 x.1) b.0 b.1 in
    let later = noted_agree (with_kind kinds x.0 x.1) xs after (ap (λ (more : Kinds). noted_all more xs) t.1 ∙ b.2) in
    let before = fit_before kinds x xs t.0 later.0 in
    ((t.0, before.0), (before.1, later.1))

fit_none : (xs : Kinds) → FitIn [] xs
fit_none [] = tt
fit_none (x ∷ xs) = (refl, fit_none xs)

-- ---- the fields, the data and the specifiers
abbrev Makes : Option DraftData → Type 0
Makes o = (d : DraftData) × (o ≡ Some d)

abbrev Notes : Option Kinds → Type 0
Notes o = (after : Kinds) × (o ≡ Some after)

abbrev drafted : DraftData → List ℕ → Got → Kinds → Option DraftData
drafted d name g kinds = Some (record { kinds = kinds; message = with_value d.message name g.value })

fields_note : (d : DraftData) (fields : List FieldText) → Makes (with_fields d fields) → Notes (noted_all d.kinds (field_kinds fields))
fields_note d [] m = (d.kinds, refl)
fields_note d (f ∷ fields) m =
    let b = bind_some (with_got d f.name f.value) (λ e. with_fields e fields) m.0 m.1 in
    let c = bind_some (noted d.kinds f.name f.value.kind) (drafted d f.name f.value) b.0 b.1 in
    let later = fields_note (record { kinds = c.0; message = with_value d.message f.name f.value.value }) fields (m.0, ap (λ (o : Option DraftData). o >>= λ e. with_fields e fields) c.2 ∙ b.2) in
    (later.0, ap (λ (o : Option Kinds). o >>= λ more. noted_all more (field_kinds fields)) c.1 ∙ later.1)

fields_make : (d : DraftData) (fields : List FieldText) → Notes (noted_all d.kinds (field_kinds fields)) → Makes (with_fields d fields)
fields_make d [] n = (d, refl)
fields_make d (f ∷ fields) n =
    let b = bind_some (noted d.kinds f.name f.value.kind) (λ more. noted_all more (field_kinds fields)) n.0 n.1 in
    let later = fields_make (record { kinds = b.0; message = with_value d.message f.name f.value.value }) fields (n.0, b.2) in
    (later.0, ap (λ (o : Option Kinds). (o >>= drafted d f.name f.value) >>= λ e. with_fields e fields) b.1 ∙ later.1)

-- data is as a field of that name
abbrev with_one : Option Got → List FieldText → List FieldText
with_one None fields = fields
with_one (Some g) fields = (record { name = codes "data"; value = g }) ∷ fields

data_as_field : (d : DraftData) (x : Option Got) (fields : List FieldText) → (with_data_field d x >>= λ e. with_fields e fields) ≡ with_fields d (with_one x fields)
data_as_field d None fields = refl
data_as_field d (Some g) fields = refl

kinds_as_fields : (x : Option Got) (fields : List FieldText) → data_kinds x ++ field_kinds fields ≡ field_kinds (with_one x fields)
kinds_as_fields None fields = refl
kinds_as_fields (Some g) fields = refl

-- specifiers are of messages, and come first
abbrev OfMessages : Kinds → Type 0
OfMessages kinds = FitsIn kinds (codes "specifiers", k.Message)

noted_specifier : (kinds : Kinds) → OfMessages kinds → noted kinds (codes "specifiers") k.Message ≡ Some (with_kind kinds (codes "specifiers") k.Message)
noted_specifier kinds fit = ap (λ (t : Bool). where_true t (with_kind kinds (codes "specifiers") k.Message)) fit

still_messages : (kinds : Kinds) → OfMessages (with_kind kinds (codes "specifiers") k.Message)
still_messages kinds = ap (λ (o : Option Kind). fits o k.Message) (named_same kinds (codes "specifiers") k.Message)

specs_are : (d : DraftData) (specs : List SpecText) (xs : Kinds) → OfMessages d.kinds → noted_all d.kinds (spec_kinds specs ++ xs) ≡ noted_all (with_specs d specs).kinds xs
specs_are d [] xs fit = refl
specs_are d (s ∷ specs) xs fit =
    ap (λ (o : Option Kinds). o >>= λ more. noted_all more (spec_kinds specs ++ xs)) (noted_specifier d.kinds fit)
    ∙ specs_are (with_specifier d s.property s.at) specs xs (still_messages d.kinds)

all_are : (what : Code) (specs : List SpecText) (x : Option Got) (fields : List FieldText) → noted_all [] (all_kinds specs x fields) ≡ noted_all (with_specs (new_draft what) specs).kinds (field_kinds (with_one x fields))
all_are what specs x fields =
    ap (λ (xs : Kinds). noted_all [] (spec_kinds specs ++ xs)) (kinds_as_fields x fields) ∙ specs_are (new_draft what) specs (field_kinds (with_one x fields)) refl

pub one_kind_each : OneKindEach
one_kind_each what specs x fields = (
  λ m.
      let made = fields_note (with_specs (new_draft what) specs) (with_one x fields) (m.0, sym (data_as_field (with_specs (new_draft what) specs) x fields) ∙ m.1) in
      (noted_agree [] (all_kinds specs x fields) made.0 (all_are what specs x fields ∙ made.1)).1,
  λ agree.
      let n = all_noted [] (all_kinds specs x fields) (fit_none (all_kinds specs x fields)) agree in
      let made = fields_make (with_specs (new_draft what) specs) (with_one x fields) (n.0, sym (all_are what specs x fields) ∙ n.1) in
      (made.0, data_as_field (with_specs (new_draft what) specs) x fields ∙ made.1),
)
