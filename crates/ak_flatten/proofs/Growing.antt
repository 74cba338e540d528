-- A message that grows by what is read, value by value and field by field.
use Rattle.std.proofs.Common.{◌≡◌, ◌≢◌, ℕ, zero, suc, ◌+◌, ◌-◌, ◌<◌, ◌≤◌, Bool, true, false, cond, ltb, eqb, List, [], ◌∷◌, ◌++◌, length, Option, Some, None, Result, Ok, Err, refl, sym, ap, subst, ◌∙◌, append_assoc, arith, max}
use Rattle.std.specs.Prelude.{is_some}
use Rattle.std.proofs.lemmas.Bool.{lt-ltb, eq-eqb}
use Rattle.std.proofs.lemmas.List.{append-nil, length-append}
use Rattle.std.proofs.lemmas.Slice.Eq.{bytes_eq-Decides}
use Rattle.ak_base.specs.Word.{is_word}
use Rattle.ak_message.specs.declared.kind.Kind.{Kind}
use Rattle.ak_message.specs.declared.fault.AddFault.{AddFault}
use Rattle.ak_message.specs.Kind.{is_same_kind, code_of_kind}
use Rattle.ak_message.specs.Message.{ValueData, FieldData, MessageData, kind_of, depth_of, depth_of_value}
use Rattle.ak_message.specs.Fields.{is_named, field_named, added, new_field, with_value, place_fault, depth_fault, add_fault}
use Rattle.ak_flatten.specs.declared.fault.FlatFault.{FlatFault}
use Rattle.ak_flatten.specs.declared.fault.FlatKind.TheVariants as kind
use Rattle.ak_flatten.specs.declared.fault.UnflattenFault.{UnflattenFault}
use Rattle.ak_flatten.specs.declared.fault.UnflattenFault.TheVariants as fault
use Rattle.ak_flatten.specs.Building.{with_field, with_values, values_added, field_added, fields_added}
use Rattle.ak_flatten.specs.Reading.{Left, ◌>>=◌, where_true, kind_at, name_at, value_count_at, value_at, values_at, field_at, fields_at, opening_at, message_from}
use Rattle.ak_flatten.specs.Seen.{Fails}
use Rattle.ak_message.proofs.Surface.{depth-added}
use Rattle.ak_flatten.proofs.Messages.{not_head}
use Rattle.ak_flatten.proofs.Parts.{bind_ok, ok_is}

-- ---- adding to a new field, and to the last one
no_name : (o : Option FieldData) → is_some o ≡ false → o ≡ None
no_name None e = refl
no_name (Some f) e = absurd cc

added_new : (fs : List FieldData) (name : List ℕ) (v : ValueData) → is_some (field_named fs name) ≡ false → added fs name v ≡ fs ++ new_field name v ∷ []
added_new [] name v none = refl
added_new (f ∷ fs) name v none =
    let head = not_head f fs name (is_named name f) refl none in
    rw head.0 (ap (λ (t : List FieldData). f ∷ t) (added_new fs name v head.1))

added_last : (fs : List FieldData) (name : List ℕ) (last : FieldData) (v : ValueData) → is_some (field_named fs name) ≡ false → last.name ≡ name → added (fs ++ last ∷ []) name v ≡ fs ++ with_value last v ∷ []
added_last [] name last v none same = let is : is_named name last ≡ true = (bytes_eq-Decides last.name name).1 same in rw is refl
added_last (f ∷ fs) name last v none same =
    let head = not_head f fs name (is_named name f) refl none in
    rw head.0 (ap (λ (t : List FieldData). f ∷ t) (added_last fs name last v head.1 same))

named_last : (fs : List FieldData) (name : List ℕ) (last : FieldData) → is_some (field_named fs name) ≡ false → last.name ≡ name → field_named (fs ++ last ∷ []) name ≡ Some last
named_last [] name last none same = let is : is_named name last ≡ true = (bytes_eq-Decides last.name name).1 same in rw is refl
named_last (f ∷ fs) name last none same =
    let head = not_head f fs name (is_named name f) refl none in rw head.0 (named_last fs name last head.1 same)

abbrev pub with_added : MessageData → List ℕ → ValueData → MessageData
with_added m name v = record { what = m.what; fields = added m.fields name v; popped = m.popped }

-- one value more
added-with_values : (m : MessageData) (name : List ℕ) (kind : Kind) (vs : List ValueData) (v : ValueData) → is_some (field_named m.fields name) ≡ false → kind_of v ≡ kind → with_added (with_values m name kind vs) name v ≡ with_values m name kind (vs ++ v ∷ [])
added-with_values m name kind [] v none same =
    ap (λ (fs : List FieldData). record { what = m.what; fields = fs; popped = m.popped }) (added_new m.fields name v none ∙ ap (λ (k : Kind). m.fields ++ (record { name = name; kind = k; values = v ∷ [] }) ∷ []) same)
added-with_values m name kind (x ∷ vs) v none same =
    ap (λ (fs : List FieldData). record { what = m.what; fields = fs; popped = m.popped }) (added_last m.fields name (record { name = name; kind = kind; values = x ∷ vs }) v none refl)

pub depth-with_added : (m : MessageData) (name : List ℕ) (v : ValueData) → depth_of (with_added m name v) ≡ max (depth_of m) (depth_of_value v + 1)
depth-with_added m name v = omega (arith, depth-added m.fields name v)

-- ---- a value that the message takes
module _ (name : List ℕ) (v : ValueData) (word : is_word name ≡ true) (shallow : depth_of_value v < 16) where
  takes_by : (fs : List FieldData) → place_fault (length fs) (field_named fs name) (kind_of v) ≡ None → add_fault fs name v ≡ None
  takes_by fs place = let deep : ltb (depth_of_value v) 16 ≡ true = lt-ltb _ _ shallow in rw (word, place, deep) refl

  takes_value : (m : MessageData) (kind : Kind) (vs : List ValueData) → is_some (field_named m.fields name) ≡ false → length m.fields < 64 → length vs < 255 → kind_of v ≡ kind → add_fault (with_values m name kind vs).fields name v ≡ None
  takes_value m kind [] none room many same =
      let few : ltb (length m.fields) 64 ≡ true = lt-ltb _ _ room in takes_by m.fields (rw (no_name (field_named m.fields name) none, few) refl)
  takes_value m kind (x ∷ vs) none room many same =
      let last : FieldData = record { name = name; kind = kind; values = x ∷ vs } in
      let found = named_last m.fields name last none refl in
      let same_kind : is_same_kind kind (kind_of v) ≡ true = eq-eqb _ _ (ap code_of_kind (sym same)) in
      let few : ltb (length (x ∷ vs)) 255 ≡ true = lt-ltb _ _ many in
      takes_by (m.fields ++ last ∷ []) (rw (found, same_kind, few) refl)

-- ---- reading values, one after another
module _ (message : Left → Result MessageData FlatFault) (m : MessageData) (name : List ℕ) (kind : Kind) (count : ℕ) (start : Left) where
  -- so many are read, and the message has them
  pub record IsGrowing (i : ℕ) (now : MessageData) (left : Left) : Type 0 where
    pub vs : List ValueData
    pub made : now ≡ with_values m name kind vs
    pub many : length vs ≡ i
    pub reading : values_at message kind (count - i) vs left ≡ values_at message kind count [] start

  pub grows_none : IsGrowing 0 m start
  grows_none = record { vs = []; made = refl; many = refl; reading = ap (λ (n : ℕ). values_at message kind n [] start) (omega arith) }

  pub grows : (i : ℕ) (now new : MessageData) (left after : Left) (v : ValueData) → IsGrowing i now left → i < count → value_at message kind left ≡ Ok (v, after) → new ≡ with_added now name v → is_some (field_named m.fields name) ≡ false → kind_of v ≡ kind → IsGrowing (i + 1) new after
  unfolding values_at
  grows i now new left after v h lt read is none same =
      let k : count - i ≡ suc (count - (i + 1)) = omega arith in
      let step : values_at message kind (count - i) h.vs left ≡ values_at message kind (count - (i + 1)) (h.vs ++ v ∷ []) after = rw (k, read) refl in
      record {
        vs = h.vs ++ v ∷ [];
        made = is ∙ ap (λ (n : MessageData). with_added n name v) h.made ∙ added-with_values m name kind h.vs v none same;
        many = omega (arith, h.many, length-append h.vs (v ∷ []));
        reading = sym step ∙ h.reading;
      }

  pub grows_takes : (i : ℕ) (now : MessageData) (left : Left) (v : ValueData) → IsGrowing i now left → is_word name ≡ true → is_some (field_named m.fields name) ≡ false → length m.fields < 64 → i < 255 → kind_of v ≡ kind → depth_of_value v < 16 → add_fault now.fields name v ≡ None
  grows_takes i now left v h word none room many same shallow =
      rw h.made (takes_value name v word shallow m kind h.vs none room (omega (arith, h.many)) same)

  pub grows_fails : (e : UnflattenFault) (i : ℕ) (now : MessageData) (left : Left) → IsGrowing i now left → i < count → Fails e (value_at message kind left) → Fails e (values_added message m name kind count start)
  unfolding values_at values_added
  grows_fails fault.NoMemory i now left h lt f = tt
  grows_fails (fault.Bad d) i now left h lt f =
      let k : count - i ≡ suc (count - (i + 1)) = omega arith in
      let step : values_at message kind (count - i) h.vs left ≡ Err d = rw (k, f) refl in
      let all : values_at message kind count [] start ≡ Err d = sym h.reading ∙ step in
      rw all refl

  pub grows_all : (i : ℕ) (now : MessageData) (left : Left) → IsGrowing i now left → count ≤ i → values_added message m name kind count start ≡ Ok (now, left)
  unfolding values_at values_added
  grows_all i now left h le =
      let k : count - i ≡ 0 = omega arith in
      let step : values_at message kind (count - i) h.vs left ≡ Ok (h.vs, left) = rw k refl in
      let all : values_at message kind count [] start ≡ Ok (h.vs, left) = sym h.reading ∙ step in
      rw all (ap (λ (n : MessageData). Ok (n, left)) (sym h.made))

abbrev as_field : List ℕ → Kind → List ValueData × Left → Result (FieldData × Left) FlatFault
as_field name kind vs = let x : FieldData × Left = (record { name = name; kind = kind; values = vs.0 }, vs.1) in Ok x

abbrev put_field : MessageData → FieldData × Left → Result (MessageData × Left) FlatFault
put_field m f = let x : MessageData × Left = (with_field m f.0, f.1) in Ok x

abbrev put_values : MessageData → List ℕ → Kind → List ValueData × Left → Result (MessageData × Left) FlatFault
put_values m name kind vs = let x : MessageData × Left = (with_values m name kind vs.0, vs.1) in Ok x

-- ---- reading fields, one after another
module _ (message : Left → Result MessageData FlatFault) (m : MessageData) (count : ℕ) (start : Left) where
  pub record IsReading (i : ℕ) (now : MessageData) (left : Left) : Type 0 where
    pub made : now ≡ record { what = m.what; fields = now.fields; popped = m.popped }
    pub many : length now.fields ≡ length m.fields + i
    pub reading : fields_at message (count - i) now.fields left ≡ fields_at message count m.fields start

  pub reading_none : IsReading 0 m start
  reading_none = record { made = refl; many = omega arith; reading = ap (λ (n : ℕ). fields_at message n m.fields start) (omega arith) }

  field_found : (now new : MessageData) (left after : Left) (r : Result (FieldData × Left) FlatFault) → (r >>= put_field now) ≡ Ok (new, after) → (f : FieldData) × (r ≡ Ok (f, after)) × (new ≡ with_field now f)
  field_found now new left after (Ok x) e =
      let made : MessageData × Left = (with_field now x.0, x.1) in
      let p = ok_is made (new, after) e in
      (x.0, ap (λ (y : MessageData × Left). Ok (x.0, y.1)) p, sym (ap (λ (y : MessageData × Left). y.0) p))
  field_found now new left after (Err d) e = absurd cc

  step_field : (i : ℕ) (earlier : List FieldData) (f : FieldData) (left after : Left) → i < count → field_at message earlier left ≡ Ok (f, after) → fields_at message (count - i) earlier left ≡ fields_at message (count - (i + 1)) (earlier ++ f ∷ []) after
  unfolding fields_at
  step_field i earlier f left after lt read = let k : count - i ≡ suc (count - (i + 1)) = omega arith in rw (k, read) refl

  pub reads_field : (i : ℕ) (now new : MessageData) (left after : Left) → IsReading i now left → i < count → field_added message now left ≡ Ok (new, after) → IsReading (i + 1) new after
  unfolding field_added
  reads_field i now new left after h lt read =
      let f = field_found now new left after (field_at message now.fields left) read in
      let step = step_field i now.fields f.0 left after lt f.1 in
      let fields : new.fields ≡ now.fields ++ f.0 ∷ [] = ap (λ (n : MessageData). n.fields) f.2 in
      let what : now.what ≡ m.what = ap (λ (n : MessageData). n.what) h.made in
      let popped : now.popped ≡ m.popped = ap (λ (n : MessageData). n.popped) h.made in
      record {
        made = f.2 ∙ λ j. record { what = what j; fields = sym fields j; popped = popped j };
        many = omega (arith, h.many, ap length fields, length-append now.fields (f.0 ∷ []));
        reading = ap (λ (fs : List FieldData). fields_at message (count - (i + 1)) fs after) fields ∙ sym step ∙ h.reading;
      }

  pub reads_fails : (e : UnflattenFault) (i : ℕ) (now : MessageData) (left : Left) → IsReading i now left → i < count → Fails e (field_added message now left) → Fails e (fields_added message m count start)
  unfolding fields_at field_added fields_added
  reads_fails fault.NoMemory i now left h lt f = tt
  reads_fails (fault.Bad d) i now left h lt f =
      let k : count - i ≡ suc (count - (i + 1)) = omega arith in
      let no_field = failed (field_at message now.fields left) (put_field now) d (λ x. ok_not_err (with_field now x.0, x.1) d) f in
      let step : fields_at message (count - i) now.fields left ≡ Err d = rw (k, no_field) refl in
      let all : fields_at message count m.fields start ≡ Err d = sym h.reading ∙ step in
      rw all refl where
        ok_not_err : (x : MessageData × Left) (d : FlatFault) → Ok x ≡ Err d → ⊥
        ok_not_err x d e = cc

        failed : {A B : Type 0} (r : Result A FlatFault) (f : A → Result B FlatFault) (d : FlatFault) → ((x : A) → f x ≡ Err d → ⊥) → (r >>= f) ≡ Err d → r ≡ Err d
        failed (Ok x) f d never e = absurd (never x e)
        failed (Err c) f d never e = cc

  pub reads_all : (i : ℕ) (now : MessageData) (left : Left) → IsReading i now left → count ≤ i → fields_added message m count start ≡ Ok (now, left)
  unfolding fields_at fields_added
  reads_all i now left h le =
      let k : count - i ≡ 0 = omega arith in
      let step : fields_at message (count - i) now.fields left ≡ Ok (now.fields, left) = rw k refl in
      let all : fields_at message count m.fields start ≡ Ok (now.fields, left) = sym h.reading ∙ step in
      rw all (ap (λ (n : MessageData). Ok (n, left)) (sym h.made))

-- ---- a field, and a whole message
values_filled : (message : Left → Result MessageData FlatFault) (kind : Kind) (n : ℕ) (earlier : List ValueData) (left : Left) (x : List ValueData × Left) → values_at message kind n earlier left ≡ Ok x → length x.0 ≡ length earlier + n
unfolding values_at
values_filled message kind zero earlier left x e = omega (arith, ap (λ (y : List ValueData × Left). length y.0) (ok_is (earlier, left) x e))
values_filled message kind (suc n) earlier left x e =
    let a = bind_ok (value_at message kind left) (λ value. values_at message kind n (earlier ++ value.0 ∷ []) value.1) x e in
    omega (arith, values_filled message kind n (earlier ++ a.0.0 ∷ []) a.0.1 x a.2, length-append earlier (a.0.0 ∷ []))

filled : (m : MessageData) (name : List ℕ) (kind : Kind) (vs : List ValueData) → 0 < length vs → with_values m name kind vs ≡ with_field m (record { name = name; kind = kind; values = vs })
filled m name kind [] some = absurd (omega arith)
filled m name kind (v ∷ vs) some = refl

filled_read : (m : MessageData) (name : List ℕ) (kind : Kind) (r : Result (List ValueData × Left) FlatFault) → ((x : List ValueData × Left) → r ≡ Ok x → 0 < length x.0) → ((r >>= as_field name kind) >>= put_field m) ≡ (r >>= put_values m name kind)
filled_read m name kind (Ok x) some = ap (λ (n : MessageData). Ok (n, x.1)) (sym (filled m name kind x.0 (some x refl)))
filled_read m name kind (Err d) some = refl

pub field_steps : (message : Left → Result MessageData FlatFault) (m : MessageData) (kind : Kind) (name : List ℕ) (count : ℕ) (left named counted start : Left) → kind_at left ≡ Ok (kind, named) → name_at m.fields named ≡ Ok (name, counted) → value_count_at counted ≡ Ok (count, start) → 1 ≤ count → field_added message m left ≡ values_added message m name kind count start
unfolding field_added values_added field_at
field_steps message m kind name count left named counted start a b c some =
    rw (a, b, c) (filled_read m name kind (values_at message kind count [] start) (λ x e. omega (arith, values_filled message kind count [] start x e)))

bind_assoc : {A B C : Type 0} (r : Result A FlatFault) (f : A → B) (g : B → Result C FlatFault) → (r >>= λ x. g (f x)) ≡ ((r >>= λ x. Ok (f x)) >>= g)
bind_assoc (Ok x) f g = refl
bind_assoc (Err d) f g = refl

abbrev pub new_message : ℕ → MessageData
new_message what = record { what = what; fields = []; popped = 0 }

-- the message, where nothing is left
abbrev pub ended : MessageData × Left → Result MessageData FlatFault
ended x = where_true (eqb (length x.1.bytes) 0) kind.Trailing x.1 x.0

pub message_steps : (levels what count : ℕ) (left start : Left) → 0 < levels → opening_at left ≡ Ok ((what, count), start) → message_from levels left ≡ (fields_added (message_from (levels - 1)) (new_message what) count start >>= ended)
unfolding message_from fields_added
message_steps zero what count left start some e = absurd (omega arith)
message_steps (suc n) what count left start some e =
    let k : suc n - 1 ≡ n = omega arith in
    rw (e, k) (bind_assoc (fields_at (message_from n) count [] start) (λ fields. (record { what = what; fields = fields.0; popped = 0 }, fields.1)) ended)

pub message_fails : (e : UnflattenFault) (r : Result (MessageData × Left) FlatFault) (all : Result MessageData FlatFault) → all ≡ (r >>= ended) → Fails e r → Fails e all
message_fails fault.NoMemory r all same f = tt
message_fails (fault.Bad d) r all same f = same ∙ rw f refl

pub message_trails : (m : MessageData) (left : Left) (r : Result (MessageData × Left) FlatFault) (all : Result MessageData FlatFault) → all ≡ (r >>= ended) → r ≡ Ok (m, left) → eqb (length left.bytes) 0 ≡ false → all ≡ Err (record { place = left.place; kind = kind.Trailing })
message_trails m left r all same read more = same ∙ rw (read, more) refl

pub message_ends : (m : MessageData) (left : Left) (r : Result (MessageData × Left) FlatFault) (all : Result MessageData FlatFault) → all ≡ (r >>= ended) → r ≡ Ok (m, left) → eqb (length left.bytes) 0 ≡ true → all ≡ Ok m
message_ends m left r all same read none = same ∙ rw (read, none) refl
