-- The message that a template makes, as it grows value by value and field by field.
use Rattle.std.proofs.Common.{◌≡◌, ◌≢◌, ℕ, suc, ◌+◌, ◌<◌, ◌≤◌, Bool, true, false, not, cond, ltb, List, [], ◌∷◌, ◌++◌, length, take, get_or, map, Option, Some, None, Result, Ok, Err, OnOk, refl, sym, ap, subst, ◌∙◌, append_assoc, arith}
use Rattle.std.specs.List.{All, AllPairs, filter}
use borrow.Author.Tests.{ltb-true}
use Rattle.std.proofs.lemmas.Bool.{lt-ltb, eq-eqb, false_from_ne_true}
use Rattle.std.proofs.Math.ListN.{get_or-map}
use Rattle.std.proofs.lemmas.List.{append-nil, length-map, length-append, length-take, take_more, get_or-take, get_or_default}
use Rattle.std.proofs.lemmas.List.Elements.{All-head, All-tail, All-take, All-nil, All-filter, filter_more}
use Rattle.std.proofs.lemmas.List.Filters.{length-filter_both}
use Rattle.std.proofs.lemmas.Slice.Eq.{bytes_eq-Decides}
use Rattle.ak_base.specs.Word.{is_word}
use Rattle.ak_message.specs.declared.kind.Kind.{Kind}
use Rattle.ak_message.specs.declared.message.Value.{Value}
use Rattle.ak_message.specs.Kind.{is_same_kind, code_of_kind}
use Rattle.ak_message.specs.Message.{ValueData, FieldData, MessageData, kind_of, depth_of_value}
use Rattle.ak_message.specs.Fields.{is_named, field_named, added, new_field, with_value, add_fault, place_fault}
use Rattle.ak_message.specs.Seen.{value_of}
use Rattle.ak_action.specs.declared.row.DeskRow.{DeskRow}
use Rattle.ak_action.specs.declared.template.Given.{Given}
use Rattle.ak_action.specs.declared.template.TemplateField.{TemplateField}
use Rattle.ak_action.specs.Building.{Fits, HasRoomFor, built_fields, field_of_values, given_values, held, with_held, with_new}
use Rattle.ak_action.specs.Template.{AreTemplateFields}
use Rattle.ak_action.specs.Values.{ValuesData, AreValues, is_shallow}

-- ---- behind fields that have other names
skipped : (b : Bool) (f : FieldData) (rest : Option FieldData) → cond b (Some f) rest ≡ None → (b ≡ false) × (rest ≡ None)
skipped true f rest e = absurd cc
skipped false f rest e = (refl, e)

named-behind : (fs gs : List FieldData) (name : List ℕ) → field_named fs name ≡ None → field_named (fs ++ gs) name ≡ field_named gs name
named-behind [] gs name e = refl
named-behind (f ∷ fs) gs name e =
    let head = skipped (is_named name f) f (field_named fs name) e in
    rw head.0 (named-behind fs gs name head.1)

added-behind : (fs gs : List FieldData) (name : List ℕ) (v : ValueData) → field_named fs name ≡ None → added (fs ++ gs) name v ≡ fs ++ added gs name v
added-behind [] gs name v e = refl
added-behind (f ∷ fs) gs name v e =
    let head = skipped (is_named name f) f (field_named fs name) e in
    rw head.0 (ap (λ (t : List FieldData). f ∷ t) (added-behind fs gs name v head.1))

-- ---- one value more
own_name : (name : List ℕ) (kind : Kind) (vs : List ValueData) → is_named name (record { name = name; kind = kind; values = vs }) ≡ true
own_name name kind vs = (bytes_eq-Decides name name).1 refl

added-own : (name : List ℕ) (vs : List ValueData) (v : ValueData) → added (field_of_values name vs) name v ≡ field_of_values name (vs ++ v ∷ [])
added-own name [] v = refl
added-own name (w ∷ vs) v = let is = own_name name (kind_of w) (w ∷ vs) in rw is refl

module _ (fs : List FieldData) (name : List ℕ) (room : HasRoomFor fs name) (v : ValueData) where
  grown-with : (vs : List ValueData) → added (fs ++ field_of_values name vs) name v ≡ fs ++ field_of_values name (vs ++ v ∷ [])
  grown-with vs = added-behind fs (field_of_values name vs) name v room.new ∙ ap (λ (t : List FieldData). fs ++ t) (added-own name vs v)

  -- nothing speaks against a value of the same kind
  takes_by : (all : List FieldData) → depth_of_value v < 16 → place_fault (length all) (field_named all name) (kind_of v) ≡ None → add_fault all name v ≡ None
  takes_by all shallow place =
      let word : is_word name ≡ true = room.word in
      let deep : ltb (depth_of_value v) 16 ≡ true = lt-ltb _ _ shallow in
      rw (word, place, deep) refl

  fits-with : (kind : Kind) (vs : List ValueData) → All (λ x. kind_of x ≡ kind) vs → kind_of v ≡ kind → length vs < 255 → depth_of_value v < 16 → add_fault (fs ++ field_of_values name vs) name v ≡ None
  fits-with kind [] all same many shallow =
      let few : ltb (length (fs ++ [])) 64 ≡ true = lt-ltb _ _ (omega (arith, room.limit, length-append fs [])) in
      let none : field_named (fs ++ []) name ≡ None = named-behind fs [] name room.new in
      takes_by (fs ++ []) shallow (rw (none, few) refl)
  fits-with kind (w ∷ vs) all same many shallow =
      let own : FieldData = record { name = name; kind = kind_of w; values = w ∷ vs } in
      let is = own_name name (kind_of w) (w ∷ vs) in
      let last : field_named (own ∷ []) name ≡ Some own = rw is refl in
      let found : field_named (fs ++ own ∷ []) name ≡ Some own = named-behind fs (own ∷ []) name room.new ∙ last in
      let first : kind_of w ≡ kind = All-head (λ (x : ValueData). kind_of x ≡ kind) w vs all in
      let same_kind : is_same_kind (kind_of w) (kind_of v) ≡ true = eq-eqb _ _ (ap code_of_kind (first ∙ sym same)) in
      let few : ltb (length (w ∷ vs)) 255 ≡ true = lt-ltb _ _ many in
      takes_by (fs ++ own ∷ []) shallow (rw (found, same_kind, few) refl)

module _ (fs : List FieldData) (name : List ℕ) (room : HasRoomFor fs name) (v : ValuesData) (h : AreValues v) where
  few : (i : ℕ) → i < length v.list → length (filter is_shallow (take i v.list)) < 255
  few i lt = omega (arith, h.limit, length-take i v.list, length-filter_both is_shallow (λ x. not (is_shallow x)) (λ x. refl) (take i v.list))

  pub fits-next : (i : ℕ) (x : ValueData) → i < length v.list → x ≡ get_or v.list i x → is_shallow x ≡ true → add_fault (fs ++ field_of_values name (filter is_shallow (take i v.list))) name x ≡ None
  fits-next i x lt e shallow =
      let same : kind_of x ≡ v.kind = subst (λ (y : ValueData). kind_of y ≡ v.kind) (sym e) (h.same_kind i x lt) in
      fits-with fs name room x v.kind (filter is_shallow (take i v.list))
      (All-filter is_shallow (λ (x : ValueData). kind_of x ≡ v.kind) (take i v.list) (All-take (λ (x : ValueData). kind_of x ≡ v.kind) i v.list h.same_kind)) same (few i lt) (ltb-true _ _ shallow)

  grown-by : (i : ℕ) (x : ValueData) (shallow : Bool) → filter is_shallow (take (i + 1) v.list) ≡ filter is_shallow (take i v.list) ++ cond shallow (x ∷ []) []
      → cond shallow (added (fs ++ field_of_values name (filter is_shallow (take i v.list))) name x) (fs ++ field_of_values name (filter is_shallow (take i v.list))) ≡ fs ++ field_of_values name (filter is_shallow (take (i + 1) v.list))
  grown-by i x true more = grown-with fs name room x (filter is_shallow (take i v.list)) ∙ ap (λ (t : List ValueData). fs ++ field_of_values name t) (sym more)
  grown-by i x false more = ap (λ (t : List ValueData). fs ++ field_of_values name t) (sym (more ∙ append-nil (filter is_shallow (take i v.list))))

  pub grown-next : (i : ℕ) (x : ValueData) → i < length v.list → x ≡ get_or v.list i x
      → cond (is_shallow x) (added (fs ++ field_of_values name (filter is_shallow (take i v.list))) name x) (fs ++ field_of_values name (filter is_shallow (take i v.list))) ≡ fs ++ field_of_values name (filter is_shallow (take (i + 1) v.list))
  grown-next i x lt e =
      grown-by i x (is_shallow x)
      (filter_more is_shallow v.list i x lt ∙ ap (λ (y : ValueData). filter is_shallow (take i v.list) ++ cond (is_shallow y) (y ∷ []) []) (sym e))

-- a value alone
module _ (fs : List FieldData) (name : List ℕ) (room : HasRoomFor fs name) (v : ValueData) where
  pub fits-alone : depth_of_value v < 16 → add_fault fs name v ≡ None
  fits-alone shallow =
      subst (λ (t : List FieldData). add_fault t name v ≡ None) (append-nil fs) (fits-with fs name room v (kind_of v) [] (All-nil (λ (x : ValueData). kind_of x ≡ kind_of v)) refl (omega arith) shallow)

  pub grown-alone : added fs name v ≡ fs ++ field_of_values name (v ∷ [])
  grown-alone = subst (λ (t : List FieldData). added t name v ≡ fs ++ field_of_values name (v ∷ [])) (append-nil fs) (grown-with fs name room v [])

  pub held-alone : (m : MessageData) → m.fields ≡ fs → (w : ValueData) (o : Option ValueData) → v ≡ w → o ≡ Some w → depth_of_value w < 16 → record m { fields = added m.fields name v } ≡ with_new m name (held o)
  held-alone m here w o same is shallow =
      let deep : ltb (depth_of_value w) 16 ≡ true = lt-ltb _ _ shallow in
      let one : held (Some w) ≡ w ∷ [] = rw deep refl in
      let values : held o ≡ v ∷ [] = ap held is ∙ one ∙ ap (λ (x : ValueData). x ∷ []) (sym same) in
      let more : added m.fields name v ≡ m.fields ++ field_of_values name (v ∷ []) = subst (λ (t : List FieldData). added t name v ≡ t ++ field_of_values name (v ∷ [])) (sym here) grown-alone in
      ap (λ (t : List FieldData). record m { fields = t }) more ∙ ap (λ (vs : List ValueData). with_new m name vs) (sym values)

-- a fact of a result that is Ok
pub OnOk-then : {A E P Q : Type 0} (r : Result A E) → (P → Q) → OnOk r P → OnOk r Q
OnOk-then (Ok x) f h = f h
OnOk-then (Err e) f h = tt

-- the values as the code holds them
module _ (m : MessageData) (name : List ℕ) (room : HasRoomFor m.fields name) (v : ValuesData) (h : AreValues v) (xs : List Value) (is : map value_of xs ≡ v.list) where
  at-place : (i : ℕ) (x : Value) → x ≡ get_or xs i x → value_of x ≡ get_or v.list i (value_of x)
  at-place i x e = ap value_of e ∙ sym (get_or-map value_of xs i x) ∙ ap (λ (l : List ValueData). get_or l i (value_of x)) is

  within : (i : ℕ) → i < length xs → i < length v.list
  within i lt = omega (arith, ap length is, length-map xs value_of)

  fields-are : (now : MessageData) (i : ℕ) → now ≡ with_new m name (filter is_shallow (take i (map value_of xs))) → now.fields ≡ m.fields ++ field_of_values name (filter is_shallow (take i v.list))
  fields-are now i made = ap (λ (n : MessageData). n.fields) made ∙ ap (λ (l : List ValueData). m.fields ++ field_of_values name (filter is_shallow (take i l))) is

  pub fits-item : (now : MessageData) (i : ℕ) (x : Value) → now ≡ with_new m name (filter is_shallow (take i (map value_of xs))) → i < length xs → x ≡ get_or xs i x → Fits now name (value_of x)
  fits-item now i x made lt e shallow =
      subst (λ (t : List FieldData). add_fault t name (value_of x) ≡ None) (sym (fields-are now i made)) (fits-next m.fields name room v h i (value_of x) (within i lt) (at-place i x e) shallow)

  -- the same by its fields alone
  by_fields : (now : MessageData) (z : ValueData) (shallow : Bool) → cond shallow (record now { fields = added now.fields name z }) now ≡ record now { fields = cond shallow (added now.fields name z) now.fields }
  by_fields now z true = refl
  by_fields now z false = refl

  pub grown-item : (now after : MessageData) (i : ℕ) (x : Value) → now ≡ with_new m name (filter is_shallow (take i (map value_of xs))) → i < length xs → x ≡ get_or xs i x → after ≡ with_held now name (value_of x) → after ≡ with_new m name (filter is_shallow (take (i + 1) (map value_of xs)))
  grown-item now after i x made lt e put =
      let z : ValueData = value_of x in
      let next = grown-next m.fields name room v h i z (within i lt) (at-place i x e) in
      put ∙ by_fields now z (is_shallow z) ∙ ap (λ (n : MessageData). record n { fields = cond (is_shallow z) (added n.fields name z) n.fields }) made
      ∙ ap (λ (l : List ValueData). record m { fields = cond (is_shallow z) (added (m.fields ++ field_of_values name (filter is_shallow (take i l))) name z) (m.fields ++ field_of_values name (filter is_shallow (take i l))) }) is
      ∙ ap (λ (t : List FieldData). record m { fields = t }) next ∙ ap (λ (l : List ValueData). with_new m name (filter is_shallow (take (i + 1) l))) (sym is)

-- ---- one field more
-- no name but those of the fields
pub named-other : (other name : List ℕ) (vs : List ValueData) (rest : List FieldData) → other ≢ name → field_named rest name ≡ None → field_named (field_of_values other vs ++ rest) name ≡ None
named-other other name [] rest differ e = e
named-other other name (v ∷ vs) rest differ e =
    let first : FieldData = record { name = other; kind = kind_of v; values = v ∷ vs } in
    let other_name : is_named name first ≡ false = false_from_ne_true (is_named name first) (λ t. differ ((bytes_eq-Decides other name).0 t)) in
    rw other_name e

-- the fields that come of those of a template, by the values that each is given
pub record AreMade (values : Given → List ValueData) (made : List TemplateField → List FieldData) : Type 0 where
  pub none : made [] ≡ []
  pub more : (g : TemplateField) (gs : List TemplateField) → made (g ∷ gs) ≡ field_of_values g.name (values g.given) ++ made gs

at_most_one : (name : List ℕ) (vs : List ValueData) → length (field_of_values name vs) ≤ 1
at_most_one name [] = omega arith
at_most_one name (v ∷ vs) = omega arith

others : (fields : List TemplateField) (i : ℕ) (f : TemplateField) → AllPairs (λ (f g : TemplateField). f.name ≢ g.name) fields → i < length fields → f ≡ get_or fields i f → All (λ (g : TemplateField). g.name ≢ f.name) (take i fields)
others fields i f h lt e k d below =
    let low : k < i = omega (arith, length-take i fields) in
    let at : get_or (take i fields) k d ≡ get_or fields k d = get_or-take i fields k d low in
    let here : f ≡ get_or fields i d = e ∙ get_or_default fields i f d lt in
    subst (λ (g : TemplateField). g.name ≢ f.name) (sym at) (subst (λ (g : TemplateField). (get_or fields k d).name ≢ g.name) (sym here) (h k i d low lt))

module _ (values : Given → List ValueData) (made : List TemplateField → List FieldData) (are : AreMade values made) where
  made-append : (gs hs : List TemplateField) → made (gs ++ hs) ≡ made gs ++ made hs
  made-append [] hs = ap (λ (t : List FieldData). t ++ made hs) (sym are.none)
  made-append (g ∷ gs) hs =
      are.more g (gs ++ hs) ∙ ap (λ (t : List FieldData). field_of_values g.name (values g.given) ++ t) (made-append gs hs)
      ∙ sym (append_assoc (field_of_values g.name (values g.given)) (made gs) (made hs)) ∙ ap (λ (t : List FieldData). t ++ made hs) (sym (are.more g gs))

  made-one : (f : TemplateField) → made (f ∷ []) ≡ field_of_values f.name (values f.given)
  made-one f = are.more f [] ∙ ap (λ (t : List FieldData). field_of_values f.name (values f.given) ++ t) are.none ∙ append-nil (field_of_values f.name (values f.given))

  pub made-next : (fields : List TemplateField) (i : ℕ) (f : TemplateField) → i < length fields → f ≡ get_or fields i f → made (take (i + 1) fields) ≡ made (take i fields) ++ field_of_values f.name (values f.given)
  made-next fields i f lt e =
      let more : take (i + 1) fields ≡ take i fields ++ f ∷ [] = take_more fields i f lt ∙ ap (λ (g : TemplateField). take i fields ++ g ∷ []) (sym e) in
      ap made more ∙ made-append (take i fields) (f ∷ []) ∙ ap (λ (t : List FieldData). made (take i fields) ++ t) (made-one f)

  unnamed : (gs : List TemplateField) (name : List ℕ) → All (λ (g : TemplateField). g.name ≢ name) gs → field_named (made gs) name ≡ None
  unnamed [] name all = ap (λ (t : List FieldData). field_named t name) are.none
  unnamed (g ∷ gs) name all =
      ap (λ (t : List FieldData). field_named t name) (are.more g gs)
      ∙ named-other g.name name (values g.given) (made gs) (All-head (λ (g : TemplateField). g.name ≢ name) g gs all) (unnamed gs name (All-tail (λ (g : TemplateField). g.name ≢ name) g gs all))

  length-made : (gs : List TemplateField) → length (made gs) ≤ length gs
  length-made [] = omega (arith, ap length are.none)
  length-made (g ∷ gs) =
      omega (arith, length-made gs, at_most_one g.name (values g.given), length-append (field_of_values g.name (values g.given)) (made gs), ap length (are.more g gs))

  pub room-next : (fields : List TemplateField) (i : ℕ) (f : TemplateField) → AreTemplateFields fields → i < length fields → f ≡ get_or fields i f → HasRoomFor (made (take i fields)) f.name
  room-next fields i f h lt e =
      record {
        word = subst (λ (g : TemplateField). is_word g.name ≡ true) (sym e) (h.words i f lt);
        new = unnamed (take i fields) f.name (others fields i f h.names_differ lt e);
        limit = omega (arith, h.limit, length-made (take i fields), length-take i fields);
      }

pub built_are : (row : DeskRow) (m : MessageData) → AreMade (given_values row m) (built_fields row m)
built_are row m = record { none = refl; more = λ g gs. refl }
