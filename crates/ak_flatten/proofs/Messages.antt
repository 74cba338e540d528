-- Values, fields and whole messages: what is read was spelled so, and what is spelled is read.
use Rattle.std.proofs.Common.{◌≡◌, ◌≢◌, ℕ, zero, suc, ◌+◌, ◌^◌, ◌<◌, ◌≤◌, Bool, true, false, cond, eqb, List, [], ◌∷◌, ◌++◌, length, get_or, All, AllPairs, Option, Some, None, Result, Ok, Err, refl, sym, ap, subst, ◌∙◌, append_assoc, arith, max}
use Rattle.std.specs.Prelude.{is_some, find}
use Rattle.std.specs.Int.{w16, to_be_bytes}
use Rattle.std.specs.List.{AllByRecursion}
use Rattle.std.proofs.lemmas.Bool.{eqb-true, eq-eqb, false_from_ne_true}
use Rattle.std.proofs.lemmas.List.{append-nil, length-append, nil_from_length, get_or_at, get_or_append_left}
use Rattle.std.proofs.lemmas.List.Elements.{All-from_recursion, recursion_from_All}
use Rattle.std.proofs.lemmas.List.Quantifiers.{all_pairs_push}
use Rattle.std.proofs.lemmas.Slice.Eq.{bytes_eq-Decides}
use Rattle.ak_base.specs.Word.{is_word}
use Rattle.ak_message.specs.declared.kind.Kind.{Kind}
use Rattle.ak_message.specs.Kind.{kind_letters}
use Rattle.ak_message.specs.Message.{ValueData, NestedValues, no_values, then_value, FieldData, MessageData, kind_of, depth_of, depth_of_value, depth_of_nested_values, depth_of_nested_fields, nested_values, nested_fields, value_of_message}
use Rattle.ak_message.specs.Fields.{is_named, field_named, IsField, IsMessage}
use Rattle.ak_message.specs.Whole.{FitsValue, FitsValues, FitsFields, IsWhole}
use Rattle.ak_flatten.specs.declared.fault.FlatFault.{FlatFault}
use Rattle.ak_flatten.specs.declared.fault.FlatKind.TheVariants as fault
use Rattle.ak_flatten.specs.Format.{is_length}
use Rattle.ak_flatten.specs.Laws.{AreBytes}
use Rattle.ak_message.specs.Popped.{IsUnpoppedValue, AreUnpoppedValues, AreUnpoppedFields, IsUnpopped}
use Rattle.ak_flatten.specs.Reading.{Left, ◌>>=◌, where_true, bytes_at, number_at, kind_at, name_at, value_count_at, value_len_at, value_from, value_at, values_at, field_at, fields_at, opening_at, message_from}
use Rattle.ak_flatten.specs.Spelling.{value_bytes, sized_bytes, values_bytes, fields_bytes, field_bytes, value_count, field_count, opening_bytes, spelling}
use Rattle.ak_flatten.proofs.Parts.{bind_ok, test_ok, ok_is, at, Takes, Takes-then, bytes_take, bytes_again, front_of}
use Rattle.ak_flatten.proofs.Heads.{opening_takes, opening_again, kind_takes, kind_again, name_takes, name_again, value_count_takes, value_count_again, value_len_takes, value_len_again}
use Rattle.ak_flatten.proofs.Values.{IsReadValue, IsReadMessage, MessageTakes, MessageAgain, value_takes, value_again, value-is_length}

-- ---- counts
pub value_count-nested : (vs : List ValueData) → value_count (nested_values vs) ≡ length vs
value_count-nested [] = refl
value_count-nested (v ∷ vs) = omega (arith, value_count-nested vs)

pub field_count-nested : (fs : List FieldData) → field_count (nested_fields fs) ≡ length fs
field_count-nested [] = refl
field_count-nested (f ∷ fs) = omega (arith, field_count-nested fs)

-- ---- names
pub not_head : (f : FieldData) (fs : List FieldData) (name : List ℕ) (b : Bool) → is_named name f ≡ b → is_some (cond b (Some f) (field_named fs name)) ≡ false → (b ≡ false) × (is_some (field_named fs name) ≡ false)
not_head f fs name true same none = absurd cc
not_head f fs name false other none = (refl, none)

-- where no field has the name, each has another one, and the other way round
pub not_named : (fs : List FieldData) (name : List ℕ) → is_some (field_named fs name) ≡ false → (i : ℕ) (d : FieldData) → i < length fs → (get_or fs i d).name ≢ name
not_named [] name none i d lt same = absurd (omega arith)
not_named (f ∷ fs) name none zero d lt same =
    let head = not_head f fs name (is_named name f) refl none in
    let is = (bytes_eq-Decides f.name name).1 same in
    absurd cc
not_named (f ∷ fs) name none (suc i) d lt same =
    let head = not_head f fs name (is_named name f) refl none in not_named fs name head.1 i d (omega arith) same

pub none_named : (fs : List FieldData) (name : List ℕ) → ((i : ℕ) (d : FieldData) → i < length fs → (get_or fs i d).name ≢ name) → is_some (field_named fs name) ≡ false
none_named [] name others = refl
none_named (f ∷ fs) name others =
    let head : is_named name f ≡ false = false_from_ne_true (is_named name f) (λ e. others 0 f (omega arith) ((bytes_eq-Decides f.name name).0 e)) in
    rw head (none_named fs name (λ i d lt. others (suc i) d (omega arith)))

abbrev pub NamesDiffer : List FieldData → Type 0
NamesDiffer fs = AllPairs (λ f g. f.name ≢ g.name) fs

-- ---- what is true of the values and the fields that were read
pub record AreReadValues (levels : ℕ) (kind : Kind) (vs : List ValueData) : Type 0 where
  pub same : AllByRecursion (λ v. kind_of v ≡ kind) vs
  pub fits : FitsValues (nested_values vs)
  pub unpopped : AreUnpoppedValues (nested_values vs)
  pub shallow : depth_of_nested_values (nested_values vs) ≤ levels

pub record IsReadField (levels : ℕ) (f : FieldData) : Type 0 where
  pub field : IsField f
  pub fits : FitsValues (nested_values f.values)
  pub unpopped : AreUnpoppedValues (nested_values f.values)
  pub shallow : depth_of_nested_values (nested_values f.values) ≤ levels

pub record AreReadFields (levels : ℕ) (fs : List FieldData) : Type 0 where
  pub every : AllByRecursion IsField fs
  pub fits : FitsFields (nested_fields fs)
  pub unpopped : AreUnpoppedFields (nested_fields fs)
  pub shallow : depth_of_nested_fields (nested_fields fs) ≤ levels

-- ---- reading takes what was spelled
module _ (message : Left → Result MessageData FlatFault) (levels : ℕ) (taken : MessageTakes message levels) where
  pub value_at_takes : (kind : Kind) (left : Left) (x : ValueData × Left) → AreBytes left.bytes → value_at message kind left ≡ Ok x → Takes left (sized_bytes x.0) x.1 × IsReadValue levels kind x.0
  unfolding value_at
  value_at_takes kind left x fits e =
      let a = bind_ok (value_len_at kind left) (λ len. bytes_at len.0 len.1 >>= λ bytes. value_from message kind (at len.1.place bytes.0) >>= λ value. Ok (value, bytes.1)) x e in
      let b = bind_ok (bytes_at a.0.0 a.0.1) (λ bytes. value_from message kind (at a.0.1.place bytes.0) >>= λ value. Ok (value, bytes.1)) x a.2 in
      let c = bind_ok (value_from message kind (at a.0.1.place b.0.0)) (λ value. Ok (value, b.0.1)) x b.2 in
      let ta = value_len_takes kind left a.0 fits a.1 in
      let tb = bytes_take a.0.0 a.0.1 b.0 ta.0.fits b.1 in
      let front_fits : AreBytes b.0.0 = front_of a.0.1 b.0.0 b.0.1 ta.0.fits tb.0.parts in
      let tc = value_takes message levels taken kind (at a.0.1.place b.0.0) c.0 front_fits (subst (λ (n : ℕ). is_length kind n ≡ true) (sym tb.1) ta.1) c.1 in
      let ab = Takes-then left (to_be_bytes w16 a.0.0) a.0.1 b.0.0 b.0.1 ta.0 tb.0 in
      let counted : Takes left (to_be_bytes w16 (length b.0.0) ++ b.0.0) b.0.1 = subst (λ (n : ℕ). Takes left (to_be_bytes w16 n ++ b.0.0) b.0.1) (sym tb.1) ab in
      let spelled : Takes left (sized_bytes c.0) b.0.1 = subst (λ (t : List ℕ). Takes left (to_be_bytes w16 (length t) ++ t) b.0.1) {x = b.0.0} {y = value_bytes c.0} (sym tc.0) counted in
      let made : ValueData × Left = (c.0, b.0.1) in
      subst (λ (y : ValueData × Left). Takes left (sized_bytes y.0) y.1 × IsReadValue levels kind y.0) {x = made} (ok_is made x c.2) (spelled, tc.1)

  record TakesValues (kind : Kind) (n : ℕ) (earlier : List ValueData) (left : Left) (x : List ValueData × Left) : Type 0 where
    more : List ValueData
    together : x.0 ≡ earlier ++ more
    many : length more ≡ n
    takes : Takes left (values_bytes (nested_values more)) x.1
    read : AreReadValues levels kind more

  values_take : (kind : Kind) (n : ℕ) (earlier : List ValueData) (left : Left) (x : List ValueData × Left) → AreBytes left.bytes → values_at message kind n earlier left ≡ Ok x → TakesValues kind n earlier left x
  unfolding values_at
  values_take kind zero earlier left x fits e =
      let made : List ValueData × Left = (earlier, left) in
      subst (TakesValues kind 0 earlier left) {x = made} (ok_is made x e) (record { more = []; together = sym (append-nil earlier); many = refl; takes = record { parts = refl; fits = fits }; read = record { same = tt; fits = tt; unpopped = tt; shallow = omega arith } })
  values_take kind (suc n) earlier left x fits e =
      let a = bind_ok (value_at message kind left) (λ value. values_at message kind n (earlier ++ value.0 ∷ []) value.1) x e in
      let t = value_at_takes kind left a.0 fits a.1 in
      let r = values_take kind n (earlier ++ a.0.0 ∷ []) a.0.1 x t.0.fits a.2 in
      record {
        more = a.0.0 ∷ r.more;
        together = r.together ∙ append_assoc earlier (a.0.0 ∷ []) r.more;
        many = ap suc r.many;
        takes = Takes-then left (sized_bytes a.0.0) a.0.1 (values_bytes (nested_values r.more)) x.1 t.0 r.takes;
        read = record { same = (t.1.same, r.read.same); fits = (t.1.fits, r.read.fits); unpopped = (t.1.unpopped, r.read.unpopped); shallow = omega (arith, t.1.shallow, r.read.shallow) };
      }

  pub field_takes : (earlier : List FieldData) (left : Left) (x : FieldData × Left) → AreBytes left.bytes → field_at message earlier left ≡ Ok x → Takes left (field_bytes x.0) x.1 × IsReadField levels x.0 × (is_some (field_named earlier x.0.name) ≡ false)
  unfolding field_at
  field_takes earlier left x fits e =
      let a = bind_ok (kind_at left) (λ kind. name_at earlier kind.1 >>= λ name. value_count_at name.1 >>= λ count. values_at message kind.0 count.0 [] count.1 >>= λ values. Ok (record { name = name.0; kind = kind.0; values = values.0 }, values.1)) x e in
      let b = bind_ok (name_at earlier a.0.1) (λ name. value_count_at name.1 >>= λ count. values_at message a.0.0 count.0 [] count.1 >>= λ values. Ok (record { name = name.0; kind = a.0.0; values = values.0 }, values.1)) x a.2 in
      let c = bind_ok (value_count_at b.0.1) (λ count. values_at message a.0.0 count.0 [] count.1 >>= λ values. Ok (record { name = b.0.0; kind = a.0.0; values = values.0 }, values.1)) x b.2 in
      let d = bind_ok (values_at message a.0.0 c.0.0 [] c.0.1) (λ values. Ok (record { name = b.0.0; kind = a.0.0; values = values.0 }, values.1)) x c.2 in
      let ta = kind_takes left a.0 fits a.1 in
      let tb = name_takes earlier a.0.1 b.0 ta.fits b.1 in
      let tc = value_count_takes b.0.1 c.0 tb.0.fits c.1 in
      let td = values_take a.0.0 c.0.0 [] c.0.1 d.0 tc.0.fits d.1 in
      let made : FieldData × Left = (record { name = b.0.0; kind = a.0.0; values = d.0.0 }, d.0.1) in
      let vs-is : td.more ≡ d.0.0 = sym td.together in
      let many : c.0.0 ≡ value_count (nested_values td.more) = sym (value_count-nested td.more ∙ td.many) in
      let ab = Takes-then left (kind_letters a.0.0) a.0.1 (length b.0.0 ∷ b.0.0) b.0.1 ta tb.0 in
      let cd = Takes-then b.0.1 (c.0.0 ∷ []) c.0.1 (values_bytes (nested_values td.more)) d.0.1 tc.0 td.takes in
      let cd_counted : Takes b.0.1 (value_count (nested_values td.more) ∷ values_bytes (nested_values td.more)) d.0.1 = subst (λ (n : ℕ). Takes b.0.1 (n ∷ values_bytes (nested_values td.more)) d.0.1) many cd in
      let ad = Takes-then left (kind_letters a.0.0 ++ length b.0.0 ∷ b.0.0) b.0.1 (value_count (nested_values td.more) ∷ values_bytes (nested_values td.more)) d.0.1 ab cd_counted in
      let with_more : FieldData = record { name = b.0.0; kind = a.0.0; values = td.more } in
      let field : IsField with_more = record { word = tb.1; filled = omega (arith, td.many, tc.1); limit = omega (arith, td.many, tc.2); same_kind = All-from_recursion (λ v. kind_of v ≡ a.0.0) td.more td.read.same } in
      let all : Takes left (field_bytes with_more) d.0.1 × IsReadField levels with_more × (is_some (field_named earlier b.0.0) ≡ false) = (ad, record { field = field; fits = td.read.fits; unpopped = td.read.unpopped; shallow = td.read.shallow }, tb.2) in
      let whole : Takes left (field_bytes made.0) made.1 × IsReadField levels made.0 × (is_some (field_named earlier made.0.name) ≡ false)
      = subst (λ (vs : List ValueData). Takes left (field_bytes (record { name = b.0.0; kind = a.0.0; values = vs })) d.0.1 × IsReadField levels (record { name = b.0.0; kind = a.0.0; values = vs }) × (is_some (field_named earlier b.0.0) ≡ false)) {x = td.more} {y = d.0.0} vs-is all in
      subst (λ (y : FieldData × Left). Takes left (field_bytes y.0) y.1 × IsReadField levels y.0 × (is_some (field_named earlier y.0.name) ≡ false)) {x = made} (ok_is made x d.2) whole

  record TakesFields (n : ℕ) (earlier : List FieldData) (left : Left) (x : List FieldData × Left) : Type 0 where
    more : List FieldData
    together : x.0 ≡ earlier ++ more
    many : length more ≡ n
    takes : Takes left (fields_bytes (nested_fields more)) x.1
    read : AreReadFields levels more
    differ : NamesDiffer x.0

  fields_take : (n : ℕ) (earlier : List FieldData) (left : Left) (x : List FieldData × Left) → AreBytes left.bytes → NamesDiffer earlier → fields_at message n earlier left ≡ Ok x → TakesFields n earlier left x
  unfolding fields_at
  fields_take zero earlier left x fits differ e =
      let made : List FieldData × Left = (earlier, left) in
      subst (TakesFields 0 earlier left) {x = made} (ok_is made x e) (record { more = []; together = sym (append-nil earlier); many = refl; takes = record { parts = refl; fits = fits }; read = record { every = tt; fits = tt; unpopped = tt; shallow = omega arith }; differ = differ })
  fields_take (suc n) earlier left x fits differ e =
      let a = bind_ok (field_at message earlier left) (λ field. fields_at message n (earlier ++ field.0 ∷ []) field.1) x e in
      let t = field_takes earlier left a.0 fits a.1 in
      let differ' : NamesDiffer (earlier ++ a.0.0 ∷ []) = all_pairs_push (λ f g. f.name ≢ g.name) earlier a.0.0 differ (λ i d lt. not_named earlier a.0.0.name t.2 i d lt) in
      let r = fields_take n (earlier ++ a.0.0 ∷ []) a.0.1 x t.0.fits differ' a.2 in
      record {
        more = a.0.0 ∷ r.more;
        together = r.together ∙ append_assoc earlier (a.0.0 ∷ []) r.more;
        many = ap suc r.many;
        takes = Takes-then left (field_bytes a.0.0) a.0.1 (fields_bytes (nested_fields r.more)) x.1 t.0 r.takes;
        read = record { every = (t.1.field, r.read.every); fits = (t.1.fits, r.read.fits); unpopped = (t.1.unpopped, r.read.unpopped); shallow = omega (arith, t.1.shallow, r.read.shallow) };
        differ = r.differ;
      }

no_pairs : NamesDiffer []
no_pairs i j d lt within same = omega arith

pub message_takes : (levels : ℕ) → levels ≤ 16 → MessageTakes (message_from levels) levels
unfolding message_from
message_takes zero le left m fits e = absurd cc
message_takes (suc levels) le left m fits e =
    let message = message_from levels in
    let a = bind_ok (opening_at left) (λ opening. fields_at message opening.0.1 [] opening.1 >>= λ fields. where_true (eqb (length fields.1.bytes) 0) fault.Trailing fields.1 (record { what = opening.0.0; fields = fields.0; popped = 0 })) m e in
    let b = bind_ok (fields_at message a.0.0.1 [] a.0.1) (λ fields. where_true (eqb (length fields.1.bytes) 0) fault.Trailing fields.1 (record { what = a.0.0.0; fields = fields.0; popped = 0 })) m a.2 in
    let ta = opening_takes left a.0 fits a.1 in
    let tb = fields_take message levels (message_takes levels (omega arith)) a.0.0.1 [] a.0.1 b.0 ta.0.fits no_pairs b.1 in
    let made : MessageData = record { what = a.0.0.0; fields = b.0.0; popped = 0 } in
    let c = test_ok (eqb (length b.0.1.bytes) 0) fault.Trailing b.0.1 made m b.2 in
    let none : b.0.1.bytes ≡ [] = nil_from_length b.0.1.bytes (eqb-true _ _ c.0) in
    let fs : List FieldData = tb.more in
    let whole = Takes-then left (opening_bytes a.0.0.0 a.0.0.1) a.0.1 (fields_bytes (nested_fields fs)) b.0.1 ta.0 tb.takes in
    let text : List ℕ = opening_bytes a.0.0.0 a.0.0.1 ++ fields_bytes (nested_fields fs) in
    let all : left.bytes ≡ text = whole.parts ∙ ap (λ (r : List ℕ). text ++ r) none ∙ append-nil text in
    let counted : text ≡ opening_bytes a.0.0.0 (field_count (nested_fields fs)) ++ fields_bytes (nested_fields fs) = ap (λ (n : ℕ). opening_bytes a.0.0.0 n ++ fields_bytes (nested_fields fs)) (sym (field_count-nested fs ∙ tb.many)) in
    let with_more : MessageData = record { what = a.0.0.0; fields = fs; popped = 0 } in
    let spelled : spelling with_more ≡ left.bytes = sym (◌∙◌ {a = left.bytes} {b = text} all counted) in
    let same : b.0.0 ≡ fs = tb.together in
    let is_message : IsMessage with_more =
    record {
      code = ta.1;
      every_field = All-from_recursion IsField fs tb.read.every;
      names_differ = subst NamesDiffer {x = b.0.0} {y = fs} same tb.differ;
      limit = omega (arith, tb.many, ta.2);
      popped_within = omega arith;
      depth_within = omega (arith, tb.read.shallow);
    }
    in
    let read : (spelling with_more ≡ left.bytes) × IsReadMessage (suc levels) with_more = (spelled, record { whole = (is_message, tb.read.fits); unpopped = (refl, tb.read.unpopped); shallow = omega (arith, tb.read.shallow) }) in
    let made_read : (spelling made ≡ left.bytes) × IsReadMessage (suc levels) made = subst (λ (gs : List FieldData). (spelling (record { what = a.0.0.0; fields = gs; popped = 0 }) ≡ left.bytes) × IsReadMessage (suc levels) (record { what = a.0.0.0; fields = gs; popped = 0 })) {x = fs} {y = b.0.0} (sym same) read in
    subst (λ (n : MessageData). (spelling n ≡ left.bytes) × IsReadMessage (suc levels) n) {x = made} c.1 made_read

-- ---- what is spelled is read again
module _ (message : Left → Result MessageData FlatFault) (levels : ℕ) (again : MessageAgain message levels) where
  value_at_again : (p : ℕ) (v : ValueData) (rest : List ℕ) → FitsValue v → IsUnpoppedValue v → depth_of_value v ≤ levels → length (value_bytes v) < 2 ^ 16 → (q : ℕ) × (value_at message (kind_of v) (at p (sized_bytes v ++ rest)) ≡ Ok (v, at q rest))
  unfolding value_at
  value_at_again p v rest fits unpopped shallow short =
      let apart = append_assoc (to_be_bytes w16 (length (value_bytes v))) (value_bytes v) rest in
      let a = value_len_again (kind_of v) p (length (value_bytes v)) (value_bytes v ++ rest) short (value-is_length v fits) in
      let b = bytes_again a.0 (length (value_bytes v)) (value_bytes v) rest refl in
      let c = value_again message levels again a.0 v fits unpopped shallow short in
      (b.0, ap (λ (t : List ℕ). value_at message (kind_of v) (at p t)) apart ∙ rw (a.1, b.1, c) refl)

  values_again : (kind : Kind) (vs earlier : List ValueData) (p : ℕ) (rest : List ℕ) → AreReadValues levels kind vs → length (values_bytes (nested_values vs)) < 2 ^ 16 → (q : ℕ) × (values_at message kind (length vs) earlier (at p (values_bytes (nested_values vs) ++ rest)) ≡ Ok (earlier ++ vs, at q rest))
  unfolding values_at
  values_again kind [] earlier p rest read short = (p, ap (λ (t : List ValueData). Ok (t, at p rest)) (sym (append-nil earlier)))
  values_again kind (v ∷ vs) earlier p rest read short =
      let apart : values_bytes (nested_values (v ∷ vs)) ++ rest ≡ sized_bytes v ++ (values_bytes (nested_values vs) ++ rest) = append_assoc (sized_bytes v) (values_bytes (nested_values vs)) rest in
      let long = length-append (sized_bytes v) (values_bytes (nested_values vs)) in
      let first_long = length-append (to_be_bytes w16 (length (value_bytes v))) (value_bytes v) in
      let a = value_at_again p v (values_bytes (nested_values vs) ++ rest) read.fits.0 read.unpopped.0 (omega (arith, read.shallow)) (omega arith) in
      let same : value_at message kind (at p (sized_bytes v ++ (values_bytes (nested_values vs) ++ rest))) ≡ Ok (v, at a.0 (values_bytes (nested_values vs) ++ rest)) = subst (λ (k : Kind). value_at message k (at p (sized_bytes v ++ (values_bytes (nested_values vs) ++ rest))) ≡ Ok (v, at a.0 (values_bytes (nested_values vs) ++ rest))) read.same.0 a.1 in
      let b = values_again kind vs (earlier ++ v ∷ []) a.0 rest (record { same = read.same.1; fits = read.fits.1; unpopped = read.unpopped.1; shallow = omega (arith, read.shallow) }) (omega arith) in
      let together = append_assoc earlier (v ∷ []) vs in
      (b.0, ap (λ (t : List ℕ). values_at message kind (suc (length vs)) earlier (at p t)) apart ∙ rw same b.1 ∙ ap (λ (t : List ValueData). Ok (t, at b.0 rest)) together)

  field_again : (f : FieldData) (earlier : List FieldData) (p : ℕ) (rest : List ℕ) → IsReadField levels f → is_some (field_named earlier f.name) ≡ false → length (field_bytes f) < 2 ^ 16 → (q : ℕ) × (field_at message earlier (at p (field_bytes f ++ rest)) ≡ Ok (f, at q rest))
  unfolding field_at
  field_again f earlier p rest read new short =
      let count = value_count (nested_values f.values) in
      let values = values_bytes (nested_values f.values) in
      let apart : field_bytes f ++ rest ≡ kind_letters f.kind ++ (length f.name ∷ f.name ++ (count ∷ (values ++ rest))) = simp append_assoc in
      let long = length-append (kind_letters f.kind ++ length f.name ∷ f.name) (count ∷ values) in
      let many = value_count-nested f.values in
      let a = kind_again p f.kind (length f.name ∷ f.name ++ (count ∷ (values ++ rest))) in
      let b = name_again earlier a.0 f.name (count ∷ (values ++ rest)) read.field.word new in
      let c = value_count_again b.0 count (values ++ rest) (omega (arith, read.field.filled)) in
      let d = values_again f.kind f.values [] c.0 rest (record { same = recursion_from_All (λ v. kind_of v ≡ f.kind) f.values read.field.same_kind; fits = read.fits; unpopped = read.unpopped; shallow = read.shallow }) (omega arith) in
      let e : values_at message f.kind count [] (at c.0 (values ++ rest)) ≡ Ok (f.values, at d.0 rest) = subst (λ (n : ℕ). values_at message f.kind n [] (at c.0 (values ++ rest)) ≡ Ok (f.values, at d.0 rest)) (sym many) d.1 in
      (d.0, ap (λ (t : List ℕ). field_at message earlier (at p t)) apart ∙ rw (a.1, b.1, c.1, e) refl)

  fields_again : (fs earlier : List FieldData) (p : ℕ) (rest : List ℕ) → AreReadFields levels fs → NamesDiffer (earlier ++ fs) → length (fields_bytes (nested_fields fs)) < 2 ^ 16 → (q : ℕ) × (fields_at message (length fs) earlier (at p (fields_bytes (nested_fields fs) ++ rest)) ≡ Ok (earlier ++ fs, at q rest))
  unfolding fields_at
  fields_again [] earlier p rest read differ short = (p, ap (λ (t : List FieldData). Ok (t, at p rest)) (sym (append-nil earlier)))
  fields_again (f ∷ fs) earlier p rest read differ short =
      let apart : fields_bytes (nested_fields (f ∷ fs)) ++ rest ≡ field_bytes f ++ (fields_bytes (nested_fields fs) ++ rest) = append_assoc (field_bytes f) (fields_bytes (nested_fields fs)) rest in
      let long = length-append (field_bytes f) (fields_bytes (nested_fields fs)) in
      let others : (i : ℕ) (d : FieldData) → i < length earlier → (get_or earlier i d).name ≢ f.name
      = λ i d lt same. differ i (length earlier) d lt (omega (arith, length-append earlier (f ∷ fs))) (rw (get_or_append_left earlier (f ∷ fs) d i lt, get_or_at earlier f fs d (length earlier) refl) same) in
      let a = field_again f earlier p (fields_bytes (nested_fields fs) ++ rest) (record { field = read.every.0; fits = read.fits.0; unpopped = read.unpopped.0; shallow = omega (arith, read.shallow) }) (none_named earlier f.name others) (omega arith) in
      let together = append_assoc earlier (f ∷ []) fs in
      let b = fields_again fs (earlier ++ f ∷ []) a.0 rest (record { every = read.every.1; fits = read.fits.1; unpopped = read.unpopped.1; shallow = omega (arith, read.shallow) }) (subst NamesDiffer (sym together) differ) (omega arith) in
      (b.0, ap (λ (t : List ℕ). fields_at message (suc (length fs)) earlier (at p t)) apart ∙ rw a.1 b.1 ∙ ap (λ (t : List FieldData). Ok (t, at b.0 rest)) together)

pub message_again : (levels : ℕ) → MessageAgain (message_from levels) levels
unfolding message_from
message_again zero p m read short = absurd (omega (arith, read.shallow))
message_again (suc levels) p m read short =
    let count = field_count (nested_fields m.fields) in
    let fields = fields_bytes (nested_fields m.fields) in
    let many = field_count-nested m.fields in
    let long = length-append (opening_bytes m.what count) fields in
    let a = opening_again p m.what count fields read.whole.0.code (omega (arith, read.whole.0.limit)) in
    let b = fields_again (message_from levels) levels (message_again levels) m.fields [] a.0 [] (record { every = recursion_from_All IsField m.fields read.whole.0.every_field; fits = read.whole.1; unpopped = read.unpopped.1; shallow = omega (arith, read.shallow) }) read.whole.0.names_differ (omega arith) in
    let c : fields_at (message_from levels) count [] (at a.0 fields) ≡ Ok (m.fields, at b.0 []) = subst (λ (t : List ℕ). fields_at (message_from levels) count [] (at a.0 t) ≡ Ok (m.fields, at b.0 [])) (append-nil fields) (subst (λ (n : ℕ). fields_at (message_from levels) n [] (at a.0 (fields ++ [])) ≡ Ok (m.fields, at b.0 [])) (sym many) b.1) in
    rw (a.1, c) (ap (λ (n : ℕ). Ok (record { what = m.what; fields = m.fields; popped = n })) (sym read.unpopped.0))
