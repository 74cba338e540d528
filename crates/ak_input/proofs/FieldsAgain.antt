-- The fields of a message are read from their texts, where each value is read from its own.
use Rattle.std.proofs.Common.{◌≡◌, ◌≢◌, ℕ, suc, ◌+◌, ◌<◌, ◌≤◌, true, false, List, [], ◌∷◌, ◌++◌, length, map, get_or, Option, Some, None, refl, sym, ap, subst, ◌∙◌, append_assoc, arith}
use Rattle.std.specs.Prelude.{All, AllPairs}
use Rattle.std.specs.List.{list_any}
use Rattle.std.specs.Str.{bytes_eq}
use Rattle.std.proofs.lemmas.Bool.{or_from, lt-ltb}
use Rattle.std.proofs.lemmas.List.{append-nil, length-append, get_or_at, map_push}
use Rattle.std.proofs.lemmas.List.Elements.{All-head, All-tail}
use Rattle.std.proofs.lemmas.Slice.Eq.{bytes_eq-Decides}
use Rattle.ak_base.specs.Code.{code_text}
use Rattle.ak_base.specs.Word.{is_word}
use Rattle.ak_base.proofs.Surface.{printed_codes_are_read}
use Rattle.ak_base.specs.declared.limited.Limited.{Limited}
use Rattle.ak_base.specs.declared.limited.Limited.TheVariants.{Within}
use Rattle.ak_message.specs.declared.kind.Kind.{Kind}
use Rattle.ak_message.specs.Fields.{field_named, added, add_fault, new_field, IsField, IsMessage}
use Rattle.ak_message.specs.Kind.{is_same_kind}
use Rattle.ak_message.specs.Message.{ValueData, NestedValues, no_values, then_value, NestedFields, no_fields, then_field, FieldData, MessageData, kind_of, depth_of_value, depth_of_nested_values, depth_of_nested_fields, listed_values, listed_fields, message_of_nested}
use Rattle.ak_input.specs.MessageText.{value_text, more_values_text, nested_values_text, field_texts}
use Rattle.ak_input.specs.Reading.{Got, GotValues, Built, got, value_with, values_with, values_of, values_behind, add_or_not, values_added, field_behind, fields_behind, message_of}
use Rattle.ak_message.specs.Whole.{FitsValues, FitsFields}
use Rattle.ak_input.proofs.CodeLaws.{code_again}
use Rattle.ak_input.proofs.FieldWords.{split_again}
use Rattle.ak_message.proofs.Surface.{names_differ, same_kind-refl}
use Rattle.ak_input.proofs.PiecesAgain.{value_texts, values_again}

-- each of these values is read from its text
abbrev pub AreRead : (List ℕ → Option Got) → NestedValues → Type 0
AreRead message no_values = Unit {0}
AreRead message (then_value v vs) = (value_with message (value_text v) ≡ Some (got v)) × AreRead message vs

abbrev pub FieldsAreRead : (List ℕ → Option Got) → NestedFields → Type 0
FieldsAreRead message no_fields = Unit {0}
FieldsAreRead message (then_field name kind vs fs) = AreRead message vs × FieldsAreRead message fs

abbrev pub field : List ℕ → Kind → List ValueData → FieldData
field name kind values = record { name = name; kind = kind; values = values }

abbrev pub with_fields : ℕ → List FieldData → MessageData
with_fields what fields = record { what = what; fields = fields; popped = 0 }

-- a message, as far as it is read, with these fields
abbrev pub name_of : FieldData → List ℕ
name_of f = f.name

abbrev built : ℕ → List FieldData → Built
built what fields = record { names = map name_of fields; message = Within (with_fields what fields) }

-- ---- names

abbrev pub NoneNamed : List ℕ → List FieldData → Type 0
NoneNamed name [] = Unit {0}
NoneNamed name (f ∷ fs) = (f.name ≢ name) × NoneNamed name fs

abbrev NamesDiffer : List FieldData → Type 0
NamesDiffer fs = AllPairs (λ f g. f.name ≢ g.name) fs

none_named : (front : List FieldData) (f : FieldData) (rest : List FieldData) → NamesDiffer (front ++ f ∷ rest) → NoneNamed f.name front
none_named [] f rest h = tt
none_named (g ∷ front) f rest h =
    let differ = h 0 (suc (length front)) f (omega arith) (omega (arith, length-append front (f ∷ rest))) in
    let here : get_or (front ++ f ∷ rest) (length front) f ≡ f = get_or_at front f rest f (length front) refl in
    (λ same. differ (same ∙ ap name_of (sym here)), none_named front f rest (λ i j d lt last. h (suc i) (suc j) d (omega arith) (omega arith)))

not_used : (name : List ℕ) (fs : List FieldData) → NoneNamed name fs → list_any (bytes_eq name) (map name_of fs) ≡ false
not_used name [] h = refl
not_used name (f ∷ fs) h =
    or_from (bytes_eq name f.name) (list_any (bytes_eq name) (map name_of fs)) (names_differ name f.name (λ e. h.0 (sym e))) (not_used name fs h.1)

pub none_found : (name : List ℕ) (fs : List FieldData) → NoneNamed name fs → field_named fs name ≡ None
none_found name [] h = refl
none_found name (f ∷ fs) h = rw (names_differ f.name name h.0) (none_found name fs h.1)

pub added_new : (name : List ℕ) (v : ValueData) (fs : List FieldData) → NoneNamed name fs → added fs name v ≡ fs ++ new_field name v ∷ []
added_new name v [] h = refl
added_new name v (f ∷ fs) h = rw (names_differ f.name name h.0) (ap (λ (t : List FieldData). f ∷ t) (added_new name v fs h.1))

same_bytes : (name : List ℕ) → bytes_eq name name ≡ true
same_bytes name = (bytes_eq-Decides name name).1 refl

pub last_found : (name : List ℕ) (kind : Kind) (values : List ValueData) (fs : List FieldData) → NoneNamed name fs → field_named (fs ++ field name kind values ∷ []) name ≡ Some (field name kind values)
last_found name kind values [] h = rw (same_bytes name) refl
last_found name kind values (f ∷ fs) h = rw (names_differ f.name name h.0) (last_found name kind values fs h.1)

pub added_last : (name : List ℕ) (kind : Kind) (values : List ValueData) (v : ValueData) (fs : List FieldData) → NoneNamed name fs → added (fs ++ field name kind values ∷ []) name v ≡ fs ++ field name kind (values ++ v ∷ []) ∷ []
added_last name kind values v [] h = rw (same_bytes name) refl
added_last name kind values v (f ∷ fs) h =
    rw (names_differ f.name name h.0) (ap (λ (t : List FieldData). f ∷ t) (added_last name kind values v fs h.1))

-- ---- faults

pub no_fault_new : (name : List ℕ) (v : ValueData) (fs : List FieldData) → is_word name ≡ true → NoneNamed name fs → length fs < 64 → depth_of_value v < 16 → add_fault fs name v ≡ None
no_fault_new name v fs word new room shallow =
    rw (word, none_found name fs new, lt-ltb (length fs) 64 room, lt-ltb (depth_of_value v) 16 shallow) refl

pub no_fault_more : (name : List ℕ) (kind : Kind) (values : List ValueData) (v : ValueData) (fs : List FieldData) → is_word name ≡ true → NoneNamed name fs → is_same_kind kind (kind_of v) ≡ true → length values < 255 → depth_of_value v < 16
    → add_fault (fs ++ field name kind values ∷ []) name v ≡ None
no_fault_more name kind values v fs word new same room shallow =
    rw (word, last_found name kind values fs new, same, lt-ltb (length values) 255 room, lt-ltb (depth_of_value v) 16 shallow) refl

-- ---- a field

module _ (message : List ℕ → Option Got) (what : ℕ) (name : List ℕ) (kind : Kind) (front : List FieldData) (word : is_word name ≡ true) (new : NoneNamed name front) where
  -- the message, with these values in the field
  abbrev read_so_far : List ValueData → Limited MessageData
  read_so_far values = Within (with_fields what (front ++ field name kind values ∷ []))

  abbrev read_whole : List ValueData → Option (Limited MessageData)
  read_whole values = Some (read_so_far values)

  more_added : (vs : NestedValues) (values : List ValueData) → AreRead message vs → All (λ v. kind_of v ≡ kind) (listed_values vs) → length values + length (listed_values vs) ≤ 255 → depth_of_nested_values vs ≤ 15
      → values_added message name (value_texts vs) (Some kind) (read_so_far values) ≡ read_whole (values ++ listed_values vs)
  unfolding values_added
  more_added no_values values read kinds room shallow = rw (append-nil values) refl
  more_added (then_value v vs) values read kinds room shallow =
      let is : kind_of v ≡ kind = All-head (λ v. kind_of v ≡ kind) v (listed_values vs) kinds in
      let later = All-tail (λ v. kind_of v ≡ kind) v (listed_values vs) kinds in
      let fits : is_same_kind (kind_of v) kind ≡ true = rw is (same_kind-refl kind) in
      let same : is_same_kind kind (kind_of v) ≡ true = rw is (same_kind-refl kind) in
      let none = no_fault_more name kind values v front word new same (omega (arith, room)) (omega (arith, shallow)) in
      let long = length-append values (v ∷ []) in
      let next = more_added vs (values ++ v ∷ []) read.1 later (omega (arith, room, long)) (omega (arith, shallow)) in
      rw (read.0, fits, none, added_last name kind values v front new, is) (next ∙ ap read_whole (append_assoc values (v ∷ []) (listed_values vs)))

  all_added : (v : ValueData) (vs : NestedValues) → AreRead message (then_value v vs) → All (λ v. kind_of v ≡ kind) (listed_values (then_value v vs)) → length front < 64 → length (listed_values (then_value v vs)) ≤ 255 → depth_of_nested_values (then_value v vs) ≤ 15
      → values_added message name (value_text v ∷ value_texts vs) None (Within (with_fields what front)) ≡ read_whole (v ∷ listed_values vs)
  unfolding values_added
  all_added v vs read kinds room few shallow =
      let is : kind_of v ≡ kind = All-head (λ v. kind_of v ≡ kind) v (listed_values vs) kinds in
      let later = All-tail (λ v. kind_of v ≡ kind) v (listed_values vs) kinds in
      let none = no_fault_new name v front word new room (omega (arith, shallow)) in
      let first : values_added message name (value_text v ∷ value_texts vs) None (Within (with_fields what front)) ≡ values_added message name (value_texts vs) (Some (kind_of v)) (add_or_not (add_fault front name v) (with_fields what front) name v) = rw read.0 refl in
      let grown : add_or_not (add_fault front name v) (with_fields what front) name v ≡ Within (with_fields what (front ++ new_field name v ∷ [])) = rw (none, added_new name v front new) refl in
      let next : values_added message name (value_texts vs) (Some (kind_of v)) (Within (with_fields what (front ++ new_field name v ∷ []))) ≡ read_whole (v ∷ listed_values vs) =
      rw is (more_added vs (v ∷ []) read.1 later (omega (arith, few)) (omega (arith, shallow))) in
      first ∙ ap (λ (m : Limited MessageData). values_added message name (value_texts vs) (Some (kind_of v)) m) grown ∙ next

  field_again : (vs : NestedValues) → IsField (field name kind (listed_values vs)) → AreRead message vs → FitsValues vs → length front < 64 → depth_of_nested_values vs ≤ 15
      → field_behind message (built what front) (name ++ 61 ∷ nested_values_text vs) ≡ Some (built what (front ++ field name kind (listed_values vs) ∷ []))
  unfolding field_behind
  field_again no_values is read fits room shallow = absurd (omega (arith, is.filled))
  field_again (then_value v vs) is read fits room shallow =
      rw (split_again name (value_text v ++ more_values_text vs) word, not_used name front new, values_again v vs fits.0 fits.1, all_added v vs read is.same_kind room is.limit shallow)
      (ap read_built (sym (map_push name_of front (field name kind (v ∷ listed_values vs))))) where
        read_built : List (List ℕ) → Option Built
        read_built names = Some (record { names = names; message = read_so_far (v ∷ listed_values vs) })

-- ---- values alone

abbrev pub values_of_kind : Kind → List ValueData → Option GotValues
values_of_kind kind values = Some (record { kind = kind; values = Within values })

behind_again : (message : List ℕ → Option Got) (kind : Kind) (vs : NestedValues) (values : List ValueData) → AreRead message vs → All (λ v. kind_of v ≡ kind) (listed_values vs) → length values + length (listed_values vs) ≤ 255
    → values_behind message (value_texts vs) (record { kind = kind; values = Within values }) ≡ values_of_kind kind (values ++ listed_values vs)
unfolding values_behind
behind_again message kind no_values values read kinds room = rw (append-nil values) refl
behind_again message kind (then_value v vs) values read kinds room =
    let is : kind_of v ≡ kind = All-head (λ v. kind_of v ≡ kind) v (listed_values vs) kinds in
    let later = All-tail (λ v. kind_of v ≡ kind) v (listed_values vs) kinds in
    let fits : is_same_kind (kind_of v) kind ≡ true = rw is (same_kind-refl kind) in
    let long = length-append values (v ∷ []) in
    let next = behind_again message kind vs (values ++ v ∷ []) read.1 later (omega (arith, room, long)) in
    rw (read.0, fits, lt-ltb (length values) 255 (omega (arith, room))) (next ∙ ap (λ (all : List ValueData). values_of_kind kind all) (append_assoc values (v ∷ []) (listed_values vs)))

pub values_alone : (message : List ℕ → Option Got) (kind : Kind) (vs : NestedValues) → AreRead message vs → FitsValues vs → All (λ v. kind_of v ≡ kind) (listed_values vs) → 0 < length (listed_values vs) → length (listed_values vs) ≤ 255
    → values_with message (nested_values_text vs) ≡ values_of_kind kind (listed_values vs)
unfolding values_of
values_alone message kind no_values read fits kinds some few = absurd (omega (arith, some))
values_alone message kind (then_value v vs) read fits kinds some few =
    let is : kind_of v ≡ kind = All-head (λ v. kind_of v ≡ kind) v (listed_values vs) kinds in
    let later = All-tail (λ v. kind_of v ≡ kind) v (listed_values vs) kinds in
    rw (values_again v vs fits.0 fits.1, read.0, is) (behind_again message kind vs (v ∷ []) read.1 later (omega (arith, few)))

-- ---- fields

pub fields_again : (message : List ℕ → Option Got) (what : ℕ) (fs : NestedFields) (front : List FieldData) → All IsField (listed_fields fs) → FitsFields fs → FieldsAreRead message fs
    → NamesDiffer (front ++ listed_fields fs) → length (front ++ listed_fields fs) ≤ 64 → depth_of_nested_fields fs ≤ 15
    → fields_behind message (field_texts fs) (built what front) ≡ Some (built what (front ++ listed_fields fs))
unfolding fields_behind
fields_again message what no_fields front every fits read differ few shallow = rw (append-nil front) refl
fields_again message what (then_field name kind vs fs) front every fits read differ few shallow =
    let f : FieldData = field name kind (listed_values vs) in
    let first = All-head IsField f (listed_fields fs) every in
    let later = All-tail IsField f (listed_fields fs) every in
    let together : (front ++ f ∷ []) ++ listed_fields fs ≡ front ++ f ∷ listed_fields fs = append_assoc front (f ∷ []) (listed_fields fs) in
    let new = none_named front f (listed_fields fs) differ in
    let one = field_again message what name kind front first.word new vs first read.0 fits.0 (omega (arith, few, length-append front (f ∷ listed_fields fs))) (omega (arith, shallow)) in
    let rest = fields_again message what fs (front ++ f ∷ []) later fits.1 read.1 (subst NamesDiffer (sym together) differ) (subst (λ (all : List FieldData). length all ≤ 64) (sym together) few) (omega (arith, shallow)) in
    rw one (subst (λ (all : List FieldData). fields_behind message (field_texts fs) (built what (front ++ f ∷ [])) ≡ Some (built what all)) together rest)

-- ---- a message

pub message_is_read : (message : List ℕ → Option Got) (what : ℕ) (fs : NestedFields) → IsMessage (message_of_nested what fs 0) → FitsFields fs → FieldsAreRead message fs → depth_of_nested_fields fs ≤ 15
    → message_of message (code_text what ∷ field_texts fs) ≡ Some (Within (message_of_nested what fs 0))
unfolding message_of
message_is_read message what fs is fits read shallow =
    rw (code_again (code_text what) what (printed_codes_are_read what is.code), fields_again message what fs [] is.every_field fits read is.names_differ is.limit shallow) refl
