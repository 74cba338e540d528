-- The fields of a message are read as what their words say, and as nothing else, if values are and none of them is too deep.
use Rattle.std.proofs.Common.{◌≡◌, ◌≢◌, ℕ, zero, suc, ◌<◌, ◌≤◌, Bool, true, false, not, cond, ltb, List, [], ◌∷◌, ◌++◌, length, map, get_or, Option, Some, None, IfSome, refl, sym, ap, subst, ◌∙◌, append_assoc, arith}
use Rattle.std.specs.Prelude.{All, AllPairs}
use Rattle.std.specs.List.{AllZip, list_any}
use Rattle.std.specs.Str.{bytes_eq}
use Rattle.std.proofs.lemmas.Bool.{both_ways, le-ltb, ltb-false, ltb-true, not-true, or_from, or_parts}
use Rattle.std.proofs.lemmas.List.{append-nil, get_or_at, length-append, map_push}
use Rattle.std.proofs.lemmas.List.Elements.{All-nil, All-cons, All-head, All-tail}
use Rattle.std.proofs.lemmas.List.Quantifiers.{all_pairs_push}
use Rattle.std.proofs.lemmas.Slice.Eq.{bytes_eq-Decides}
use Rattle.ak_base.proofs.Surface.{bind_some, cond_some, done, some_is}
use Rattle.ak_base.specs.Limited.{limited_map}
use Rattle.ak_base.specs.Option.{where_true, ◌>>=◌}
use Rattle.ak_base.specs.Word.{is_word}
use Rattle.ak_base.specs.declared.limited.Limited.{Limited}
use Rattle.ak_base.specs.declared.limited.Limited.TheVariants.{Within, Over}
use Rattle.ak_message.specs.declared.fault.AddFault.{AddFault}
use Rattle.ak_message.specs.declared.fault.AddFault.TheVariants as add
use Rattle.ak_message.specs.declared.kind.Kind.{Kind}
use Rattle.ak_message.specs.Fields.{add_fault, new_field}
use Rattle.ak_message.specs.Kind.{is_same_kind, same_kind-is}
use Rattle.ak_message.specs.Message.{ValueData, FieldData, MessageData, kind_of}
use Rattle.ak_message.proofs.Surface.{names_differ}
use Rattle.ak_input.specs.declared.pieces.Separator.TheVariants as by
use Rattle.ak_input.specs.Got.{Got}
use Rattle.ak_input.specs.Pieces.{pieces_of}
use Rattle.ak_input.specs.Reading.{Built, value_with, add_or_not, with_value, fits, values_added, field_split, field_begun, field_behind, fields_behind, code_from, message_of}
use Rattle.ak_input.specs.Said.{AreJoined, WrittenField, Writes, WritesAll, WritesField, WritesWords, all_within, at_most, field_within, fields_within, message_within, onto_all}
use Rattle.ak_input.proofs.CodeLaws.{code_again}
use Rattle.ak_input.proofs.CodeWords.{code_number}
use Rattle.ak_input.proofs.FieldWords.{split_again, split_takes}
use Rattle.ak_input.proofs.FieldsAgain.{NoneNamed, added_last, added_new, field, last_found, name_of, no_fault_more, no_fault_new, none_found, with_fields}
use Rattle.ak_input.proofs.Fine.{Holds, IfWithin, IsFine, value_fine}
use Rattle.ak_input.proofs.Gathering.{all_of, gathered_is, pushed, pushed_all, stays_over}
use Rattle.ak_input.proofs.PiecesSaid.{joined_again, joined_takes}
use Rattle.ak_input.proofs.ValuesSaid.{Agree, gathered, gathered_all, same_as, value_again, value_in, value_takes}

abbrev FieldLists : Type 0
FieldLists = Limited (List FieldData)

-- ---- values are added one by one
abbrev with_all : Limited MessageData → List ℕ → List Got → Limited MessageData
with_all m name [] = m
with_all m name (g ∷ gots) = with_all (with_value m name g.value) name gots

none_added : (name : List ℕ) (gots : List Got) → with_all Over name gots ≡ Over
none_added name [] = refl
none_added name (g ∷ gots) = none_added name gots

fault_new : (name : List ℕ) (v : ValueData) (fs : List FieldData) → is_word name ≡ true → NoneNamed name fs → 64 ≤ length fs → add_fault fs name v ≡ Some add.FieldLimit
fault_new name v fs word new full = rw (word, none_found name fs new, le-ltb (length fs) 64 full) refl

fault_more : (name : List ℕ) (kind : Kind) (values : List ValueData) (v : ValueData) (fs : List FieldData) → is_word name ≡ true → NoneNamed name fs → is_same_kind kind (kind_of v) ≡ true → 255 ≤ length values
    → add_fault (fs ++ field name kind values ∷ []) name v ≡ Some add.FieldLimit
fault_more name kind values v fs word new same full = rw (word, last_found name kind values fs new, same, le-ltb (length values) 255 full) refl

-- to a new field, after the fields in front
module _ (most : ℕ) (shallow : most ≤ 15) (what : ℕ) (name : List ℕ) (kind : Kind) (front : List FieldData) (word : is_word name ≡ true) (new : NoneNamed name front) where
  abbrev so_far : List ValueData → MessageData
  so_far values = with_fields what (front ++ field name kind values ∷ [])

  abbrev Grows : List Got → Type 0
  Grows gots = (values : List ValueData) → with_all (Within (so_far values)) name gots ≡ limited_map so_far (gathered (Within values) gots)

  value_more : (gots : List Got) (values : List ValueData) (v : ValueData) → Holds most kind v → Grows gots → (room : Bool) → ltb (length values) 255 ≡ room
      → with_all (add_or_not (add_fault (front ++ field name kind values ∷ []) name v) (so_far values) name v) name gots ≡ limited_map so_far (gathered (cond room (Within (values ++ v ∷ [])) Over) gots)
  value_more gots values v holds later true is =
      let same : is_same_kind kind (kind_of v) ≡ true = same_as kind (kind_of v) (sym holds.kind_is) in
      let none = no_fault_more name kind values v front word new same (ltb-true (length values) 255 is) (omega (arith, holds.shallow)) in
      ap (λ (o : Option AddFault). with_all (add_or_not o (so_far values) name v) name gots) none
      ∙ ap (λ (fs : List FieldData). with_all (Within (with_fields what fs)) name gots) (added_last name kind values v front new)
      ∙ later (values ++ v ∷ [])
  value_more gots values v holds later false is =
      let same : is_same_kind kind (kind_of v) ≡ true = same_as kind (kind_of v) (sym holds.kind_is) in
      let full = fault_more name kind values v front word new same (ltb-false (length values) 255 is) in
      ap (λ (o : Option AddFault). with_all (add_or_not o (so_far values) name v) name gots) full
      ∙ none_added name gots
      ∙ sym (ap (λ (vs : Limited (List ValueData)). limited_map so_far vs) (stays_over value_in 255 gots))

  one_more : (gots : List Got) (values : List ValueData) (v : Limited ValueData) → IfWithin v (Holds most kind) → Grows gots
      → with_all (with_value (Within (so_far values)) name v) name gots ≡ limited_map so_far (gathered (pushed 255 (Within values) v) gots)
  one_more gots values Over holds later = none_added name gots ∙ sym (ap (λ (vs : Limited (List ValueData)). limited_map so_far vs) (stays_over value_in 255 gots))
  one_more gots values (Within v) holds later =
      value_more gots values v holds later (ltb (length values) 255) refl

  abbrev IsGood : Got → Type 0
  IsGood g = IfWithin g.value (Holds most kind)

  more_grow : (gots : List Got) → All IsGood gots → Grows gots
  more_grow [] good values = refl
  more_grow (g ∷ gots) good values = one_more gots values g.value (All-head IsGood g gots good) (more_grow gots (All-tail IsGood g gots good))

  -- the field that these values make
  abbrev field_of : List ValueData → FieldData
  field_of values = field name kind values

  abbrev put : Limited (List ValueData) → Limited MessageData
  put values = limited_map (with_fields what) (pushed 64 (Within front) (limited_map field_of values))

  put_room : (values : Limited (List ValueData)) → ltb (length front) 64 ≡ true → limited_map so_far values ≡ put values
  put_room Over room = refl
  put_room (Within vs) room = ap (λ (t : Bool). limited_map (with_fields what) (cond t (Within (front ++ field name kind vs ∷ [])) Over)) (sym room)

  put_full : (values : Limited (List ValueData)) → ltb (length front) 64 ≡ false → put values ≡ Over
  put_full Over full = refl
  put_full (Within vs) full = ap (λ (t : Bool). limited_map (with_fields what) (cond t (Within (front ++ field name kind vs ∷ [])) Over)) full

  value_first : (gots : List Got) (v : ValueData) → Holds most kind v → All IsGood gots → (room : Bool) → ltb (length front) 64 ≡ room
      → with_all (add_or_not (add_fault front name v) (with_fields what front) name v) name gots ≡ put (gathered (Within (v ∷ [])) gots)
  value_first gots v holds good true is =
      let none = no_fault_new name v front word new (ltb-true (length front) 64 is) (omega (arith, holds.shallow)) in
      let kinds : front ++ new_field name v ∷ [] ≡ front ++ field name kind (v ∷ []) ∷ [] = ap (λ (x : Kind). front ++ field name x (v ∷ []) ∷ []) holds.kind_is in
      ap (λ (o : Option AddFault). with_all (add_or_not o (with_fields what front) name v) name gots) none
      ∙ ap (λ (fs : List FieldData). with_all (Within (with_fields what fs)) name gots) (added_new name v front new ∙ kinds)
      ∙ more_grow gots good (v ∷ [])
      ∙ put_room (gathered (Within (v ∷ [])) gots) is
  value_first gots v holds good false is =
      let full = fault_new name v front word new (ltb-false (length front) 64 is) in
      ap (λ (o : Option AddFault). with_all (add_or_not o (with_fields what front) name v) name gots) full
      ∙ none_added name gots
      ∙ sym (put_full (gathered (Within (v ∷ [])) gots) is)

  one_first : (gots : List Got) (v : Limited ValueData) → IfWithin v (Holds most kind) → All IsGood gots
      → with_all (with_value (Within (with_fields what front)) name v) name gots ≡ put (gathered (pushed 255 (Within []) v) gots)
  one_first gots Over holds good = none_added name gots ∙ sym (ap put (stays_over value_in 255 gots))
  one_first gots (Within v) holds good = value_first gots v holds good (ltb (length front) 64) refl

  all_put : (g : Got) (gots : List Got) → All IsGood (g ∷ gots) → with_all (Within (with_fields what front)) name (g ∷ gots) ≡ put (gathered (Within []) (g ∷ gots))
  all_put g gots good = one_first gots g.value (All-head IsGood g gots good) (All-tail IsGood g gots good)

-- ---- names
abbrev written_name : WrittenField → List ℕ
written_name f = f.name

unused_is : (name : List ℕ) (fs : List FieldData) → list_any (bytes_eq name) (map name_of fs) ≡ false → NoneNamed name fs
unused_is name [] none = tt
unused_is name (f ∷ fs) none =
    let parts = or_parts (bytes_eq name f.name) (list_any (bytes_eq name) (map name_of fs)) none in
    (λ same. both_ways (bytes_eq name f.name) parts.0 ((bytes_eq-Decides name f.name).1 (sym same)), unused_is name fs parts.1)

-- no field has one of these names, or the name of a field before it
abbrev AreNew : List (List ℕ) → List WrittenField → Type 0
AreNew names [] = Unit {0}
AreNew names (f ∷ fs) = (list_any (bytes_eq f.name) names ≡ false) × AreNew (names ++ f.name ∷ []) fs

abbrev Differ : WrittenField → WrittenField → Type 0
Differ f g = f.name ≢ g.name

unused_in : (front : List WrittenField) (f : WrittenField) (rest : List WrittenField) → AllPairs Differ (front ++ f ∷ rest) → list_any (bytes_eq f.name) (map written_name front) ≡ false
unused_in [] f rest pairs = refl
unused_in (g ∷ front) f rest pairs =
    let differ = pairs 0 (suc (length front)) f (omega arith) (omega (arith, length-append front (f ∷ rest))) in
    let here : get_or (front ++ f ∷ rest) (length front) f ≡ f = get_or_at front f rest f (length front) refl in
    or_from (bytes_eq f.name g.name) (list_any (bytes_eq f.name) (map written_name front)) (names_differ f.name g.name (λ same. differ (sym same ∙ ap written_name (sym here))))
    (unused_in front f rest (λ i j d lt last. pairs (suc i) (suc j) d (omega arith) (omega arith)))

new_from_pairs : (fs front : List WrittenField) → AllPairs Differ (front ++ fs) → AreNew (map written_name front) fs
new_from_pairs [] front pairs = tt
new_from_pairs (f ∷ fs) front pairs =
    let together : (front ++ f ∷ []) ++ fs ≡ front ++ f ∷ fs = append_assoc front (f ∷ []) fs in
    let later = new_from_pairs fs (front ++ f ∷ []) (subst (λ (all : List WrittenField). AllPairs Differ all) (sym together) pairs) in
    (unused_in front f fs pairs, subst (λ (names : List (List ℕ)). AreNew names fs) (map_push written_name front f) later)

differ_at : (front : List WrittenField) (f : WrittenField) → list_any (bytes_eq f.name) (map written_name front) ≡ false → (k : ℕ) (d : WrittenField) → k < length front → Differ (get_or front k d) f
differ_at [] f none k d lt = absurd (omega arith)
differ_at (g ∷ front) f none zero d lt =
    let parts = or_parts (bytes_eq f.name g.name) (list_any (bytes_eq f.name) (map written_name front)) none in
    λ same. both_ways (bytes_eq f.name g.name) parts.0 ((bytes_eq-Decides f.name g.name).1 (sym same))
differ_at (g ∷ front) f none (suc k) d lt =
    let parts = or_parts (bytes_eq f.name g.name) (list_any (bytes_eq f.name) (map written_name front)) none in
    differ_at front f parts.1 k d (omega arith)

pairs_from_new : (fs front : List WrittenField) → AllPairs Differ front → AreNew (map written_name front) fs → AllPairs Differ (front ++ fs)
pairs_from_new [] front pairs new = subst (λ (all : List WrittenField). AllPairs Differ all) (sym (append-nil front)) pairs
pairs_from_new (f ∷ fs) front pairs new =
    let together : (front ++ f ∷ []) ++ fs ≡ front ++ f ∷ fs = append_assoc front (f ∷ []) fs in
    let grown : AllPairs Differ (front ++ f ∷ []) = all_pairs_push Differ front f pairs (differ_at front f new.0) in
    let rest : AreNew (map written_name (front ++ f ∷ [])) fs = subst (λ (names : List (List ℕ)). AreNew names fs) (sym (map_push written_name front f)) new.1 in
    subst (λ (all : List WrittenField). AllPairs Differ all) together (pairs_from_new fs (front ++ f ∷ []) grown rest)

-- ---- these are the names of these fields, if they are within the limits
abbrev AreNamesOf : List (List ℕ) → FieldLists → Type 0
AreNamesOf names fields = IfWithin fields (λ (front : List FieldData). names ≡ map name_of front)

names_if : (names : List (List ℕ)) (name : List ℕ) (kind : Kind) (values : List ValueData) (front : List FieldData) (room : Bool) → names ≡ map name_of front
    → AreNamesOf (names ++ name ∷ []) (cond room (Within (front ++ field name kind values ∷ [])) Over)
names_if names name kind values front true are = ap (λ (ns : List (List ℕ)). ns ++ name ∷ []) are ∙ sym (map_push name_of front (field name kind values))
names_if names name kind values front false are = tt

names_pushed : (names : List (List ℕ)) (fields : FieldLists) (name : List ℕ) (kind : Kind) (values : Limited (List ValueData)) → AreNamesOf names fields
    → AreNamesOf (names ++ name ∷ []) (pushed 64 fields (limited_map (λ (vs : List ValueData). field name kind vs) values))
names_pushed names Over name kind values are = tt
names_pushed names (Within front) name kind Over are = tt
names_pushed names (Within front) name kind (Within vs) are = names_if names name kind vs front (ltb (length front) 64) are

abbrev building : ℕ → List (List ℕ) → FieldLists → Built
building what names fields = record { names = names; message = limited_map (with_fields what) fields }

-- ---- for a reader of messages that reads what their texts say, and no message that is too deep
module _ (message : List ℕ → Option Got) (Message : List ℕ → Limited MessageData → Type 0) (agree : Agree message Message) (most : ℕ) (shallow : most ≤ 15) (fine : (text : List ℕ) → IfSome (message text) (IsFine most)) where
  read_is_fine : (text : List ℕ) (g : Got) → value_with message text ≡ Some g → IsFine most g
  read_is_fine text g e = subst (λ (o : Option Got). IfSome o (IsFine most)) e (value_fine most message fine text)

  all_good : (texts : List (List ℕ)) (gots : List Got) (kind : Kind) → AllZip (Writes Message) texts gots → All (λ (g : Got). g.kind ≡ kind) gots → All (λ (g : Got). IfWithin g.value (Holds most kind)) gots
  all_good [] [] kind each kinds = All-nil (λ (g : Got). IfWithin g.value (Holds most kind))
  all_good [] (g ∷ gots) kind each kinds = absurd each
  all_good (text ∷ texts) [] kind each kinds = absurd each
  all_good (text ∷ texts) (g ∷ gots) kind each kinds =
      let one = read_is_fine text g (value_again message Message agree text g each.0) in
      let good : IfWithin g.value (Holds most kind) = subst (λ (x : Kind). IfWithin g.value (Holds most x)) (All-head (λ (g : Got). g.kind ≡ kind) g gots kinds) one in
      All-cons (λ (g : Got). IfWithin g.value (Holds most kind)) g gots good (all_good texts gots kind each.1 (All-tail (λ (g : Got). g.kind ≡ kind) g gots kinds))

  -- ---- the values of a field
  record AreAdded (texts : List (List ℕ)) (name : List ℕ) (kind : Kind) (m out : Limited MessageData) : Type 0 where
    gots : List Got
    each : AllZip (Writes Message) texts gots
    one_kind : All (λ (g : Got). g.kind ≡ kind) gots
    out_is : out ≡ with_all m name gots

  more_take : (texts : List (List ℕ)) (name : List ℕ) (kind : Kind) (m out : Limited MessageData) → values_added message name texts (Some kind) m ≡ Some out → AreAdded texts name kind m out
  unfolding values_added
  more_take [] name kind m out e = record { gots = []; each = tt; one_kind = All-nil (λ (g : Got). g.kind ≡ kind); out_is = sym (some_is m out e) }
  more_take (text ∷ texts) name kind m out e =
      let s = bind_some (value_with message text) (λ v. where_true (fits (Some kind) v.kind) v >>= λ w. values_added message name texts (Some w.kind) (with_value m name w.value)) out e in
      let t = bind_some (where_true (is_same_kind s.0.kind kind) s.0) (λ w. values_added message name texts (Some w.kind) (with_value m name w.value)) out s.2 in
      let u = cond_some (is_same_kind s.0.kind kind) s.0 t.0 t.1 in
      let same : s.0.kind ≡ kind = same_kind-is s.0.kind kind u.0 in
      let rest : values_added message name texts (Some s.0.kind) (with_value m name s.0.value) ≡ Some out =
      subst (λ (w : Got). values_added message name texts (Some w.kind) (with_value m name w.value) ≡ Some out) (sym u.1) t.2 in
      let later = more_take texts name kind (with_value m name s.0.value) out (subst (λ (x : Kind). values_added message name texts (Some x) (with_value m name s.0.value) ≡ Some out) same rest) in
      record {
        gots = s.0 ∷ later.gots;
        each = (value_takes message Message agree text s.0 s.1, later.each);
        one_kind = All-cons (λ (g : Got). g.kind ≡ kind) s.0 later.gots same later.one_kind;
        out_is = later.out_is;
      }

  more_again : (texts : List (List ℕ)) (gots : List Got) (name : List ℕ) (kind : Kind) (m : Limited MessageData) → AllZip (Writes Message) texts gots → All (λ (g : Got). g.kind ≡ kind) gots
      → values_added message name texts (Some kind) m ≡ Some (with_all m name gots)
  unfolding values_added
  more_again [] [] name kind m each kinds = refl
  more_again [] (g ∷ gots) name kind m each kinds = absurd each
  more_again (text ∷ texts) [] name kind m each kinds = absurd each
  more_again (text ∷ texts) (g ∷ gots) name kind m each kinds =
      let same : g.kind ≡ kind = All-head (λ (g : Got). g.kind ≡ kind) g gots kinds in
      ap (λ (o : Option Got). o >>= λ v. where_true (fits (Some kind) v.kind) v >>= λ w. values_added message name texts (Some w.kind) (with_value m name w.value)) (value_again message Message agree text g each.0)
      ∙ ap (λ (t : Bool). where_true t g >>= λ w. values_added message name texts (Some w.kind) (with_value m name w.value)) (same_as g.kind kind same)
      ∙ ap (λ (x : Kind). values_added message name texts (Some x) (with_value m name g.value)) same
      ∙ more_again texts gots name kind (with_value m name g.value) each.1 (All-tail (λ (g : Got). g.kind ≡ kind) g gots kinds)

  -- what the text of a field says, and the message with its values added
  record HasContent (text name : List ℕ) (m out : Limited MessageData) : Type 0 where
    first : Got
    others : List Got
    content_is : WritesAll Message text (record { kind = first.kind; values = at_most 255 (all_within (first ∷ others)) })
    good : All (λ (g : Got). IfWithin g.value (Holds most first.kind)) (first ∷ others)
    out_is : out ≡ with_all m name (first ∷ others)

  content_takes : (text : List ℕ) (texts : List (List ℕ)) (name : List ℕ) (m out : Limited MessageData) → AreJoined text texts → values_added message name texts None m ≡ Some out → HasContent text name m out
  unfolding values_added
  content_takes text [] name m out are e = absurd are
  content_takes text (one ∷ texts) name m out are e =
      let s = bind_some (value_with message one) (λ v. where_true (fits None v.kind) v >>= λ w. values_added message name texts (Some w.kind) (with_value m name w.value)) out e in
      let later = more_take texts name s.0.kind (with_value m name s.0.value) out s.2 in
      let each : AllZip (Writes Message) (one ∷ texts) (s.0 ∷ later.gots) = (value_takes message Message agree one s.0 s.1, later.each) in
      let kinds : All (λ (g : Got). g.kind ≡ s.0.kind) (s.0 ∷ later.gots) = All-cons (λ (g : Got). g.kind ≡ s.0.kind) s.0 later.gots refl later.one_kind in
      record {
        first = s.0;
        others = later.gots;
        content_is = record { texts = one ∷ texts; joined = are; gots = s.0 ∷ later.gots; each = each; one_kind = kinds; kept = refl };
        good = all_good (one ∷ texts) (s.0 ∷ later.gots) s.0.kind each kinds;
        out_is = later.out_is;
      }

  content_again : (text : List ℕ) (texts : List (List ℕ)) (gots : List Got) (name : List ℕ) (kind : Kind) (m : Limited MessageData) → AreJoined text texts → AllZip (Writes Message) texts gots
      → All (λ (g : Got). g.kind ≡ kind) gots → values_added message name texts None m ≡ Some (with_all m name gots)
  unfolding values_added
  content_again text [] gots name kind m are each kinds = absurd are
  content_again text (one ∷ texts) [] name kind m are each kinds = absurd each
  content_again text (one ∷ texts) (g ∷ gots) name kind m are each kinds =
      let same : g.kind ≡ kind = All-head (λ (g : Got). g.kind ≡ kind) g gots kinds in
      ap (λ (o : Option Got). o >>= λ v. where_true (fits None v.kind) v >>= λ w. values_added message name texts (Some w.kind) (with_value m name w.value)) (value_again message Message agree one g each.0)
      ∙ ap (λ (x : Kind). values_added message name texts (Some x) (with_value m name g.value)) same
      ∙ more_again texts gots name kind (with_value m name g.value) each.1 (All-tail (λ (g : Got). g.kind ≡ kind) g gots kinds)

  -- the values of a field, added one by one, are the field after the others
  all_added : (what : ℕ) (names : List (List ℕ)) (fields : FieldLists) (name : List ℕ) (kind : Kind) (gots : List Got) → AreNamesOf names fields → is_word name ≡ true → list_any (bytes_eq name) names ≡ false
      → 0 < length gots → All (λ (g : Got). IfWithin g.value (Holds most kind)) gots
      → with_all (limited_map (with_fields what) fields) name gots
      ≡ limited_map (with_fields what) (pushed 64 fields (limited_map (λ (vs : List ValueData). field name kind vs) (at_most 255 (all_within gots))))
  all_added what names Over name kind gots are word new some good = none_added name gots
  all_added what names (Within front) name kind [] are word new some good = absurd (omega arith)
  all_added what names (Within front) name kind (g ∷ gots) are word new some good =
      let none : NoneNamed name front = unused_is name front (subst (λ (ns : List (List ℕ)). list_any (bytes_eq name) ns ≡ false) are new) in
      all_put most shallow what name kind front word none g gots good
      ∙ ap (λ (values : Limited (List ValueData)). limited_map (with_fields what) (pushed 64 (Within front) (limited_map (λ (vs : List ValueData). field name kind vs) values))) (gathered_all (g ∷ gots))

  -- ---- a field
  abbrev values_step : List ℕ → Built → List (List ℕ) → Option Built
  values_step name begun texts = values_added message name texts None begun.message >>= λ m. Some (record { names = begun.names; message = m })

  abbrev pieces_step : List ℕ × List ℕ → Built → Option Built
  pieces_step field begun = pieces_of by.Comma field.1 >>= λ texts. values_step field.0 begun texts

  abbrev begun_step : Built → List ℕ × List ℕ → Option Built
  begun_step b field = field_begun b field.0 >>= λ begun. pieces_step field begun

  field_steps : (b : Built) (word : List ℕ) → field_behind message b word ≡ (field_split word >>= begun_step b)
  unfolding field_behind
  field_steps b word = refl

  record IsField (what : ℕ) (names : List (List ℕ)) (fields : FieldLists) (word : List ℕ) (out : Built) : Type 0 where
    field : WrittenField
    written : WritesField Message word field
    new : list_any (bytes_eq field.name) names ≡ false
    out_is : out ≡ building what (names ++ field.name ∷ []) (pushed 64 fields (field_within field))

  abbrev written_field : List ℕ → Kind → List Got → WrittenField
  written_field name kind gots = record { name = name; content = record { kind = kind; values = at_most 255 (all_within gots) } }

  content_field : (what : ℕ) (names : List (List ℕ)) (fields : FieldLists) (word name text : List ℕ) (m : Limited MessageData) (out : Built) → AreNamesOf names fields → word ≡ name ++ 61 ∷ text → is_word name ≡ true
      → list_any (bytes_eq name) names ≡ false → HasContent text name (limited_map (with_fields what) fields) m → record { names = names ++ name ∷ []; message = m } ≡ out → IsField what names fields word out
  content_field what names fields word name text m out are is good new content same =
      let added = all_added what names fields name content.first.kind (content.first ∷ content.others) are good new (omega arith) content.good in
      record {
        field = written_field name content.first.kind (content.first ∷ content.others);
        written = record { text = text; word_is = is; name_is = good; values_are = content.content_is };
        new = new;
        out_is = sym same ∙ ap (λ (x : Limited MessageData). named (names ++ name ∷ []) x) (content.out_is ∙ added);
      } where
        named : List (List ℕ) → Limited MessageData → Built
        named ns x = record { names = ns; message = x }

  field_takes : (what : ℕ) (names : List (List ℕ)) (fields : FieldLists) (word : List ℕ) (out : Built) → AreNamesOf names fields → field_behind message (building what names fields) word ≡ Some out → IsField what names fields word out
  field_takes what names fields word out are e =
      let s = bind_some (field_split word) (begun_step (building what names fields)) out (sym (field_steps (building what names fields) word) ∙ e) in
      let g = bind_some (field_begun (building what names fields) s.0.0) (λ begun. pieces_step s.0 begun) out s.2 in
      let new = cond_some (not (list_any (bytes_eq s.0.0) names)) (building what (names ++ s.0.0 ∷ []) fields) g.0 g.1 in
      let rest : pieces_step s.0 (building what (names ++ s.0.0 ∷ []) fields) ≡ Some out = subst (λ (x : Built). pieces_step s.0 x ≡ Some out) (sym new.1) g.2 in
      let p = bind_some (pieces_of by.Comma s.0.1) (λ texts. values_step s.0.0 (building what (names ++ s.0.0 ∷ []) fields) texts) out rest in
      let v = bind_some (values_added message s.0.0 p.0 None (limited_map (with_fields what) fields)) (λ m. Some (record { names = names ++ s.0.0 ∷ []; message = m })) out p.2 in
      let split = split_takes word s.0 s.1 in
      content_field what names fields word s.0.0 s.0.1 v.0 out are split.0 split.1 (not-true (list_any (bytes_eq s.0.0) names) new.0)
      (content_takes s.0.1 p.0 s.0.0 (limited_map (with_fields what) fields) v.0 (joined_takes s.0.1 p.0 p.1) v.1) (some_is (record { names = names ++ s.0.0 ∷ []; message = v.0 }) out v.2)

  some_gots : (text : List ℕ) (texts : List (List ℕ)) (gots : List Got) → AreJoined text texts → AllZip (Writes Message) texts gots → 0 < length gots
  some_gots text [] gots are each = absurd are
  some_gots text (one ∷ texts) [] are each = absurd each
  some_gots text (one ∷ texts) (g ∷ gots) are each = omega arith

  field_again : (what : ℕ) (names : List (List ℕ)) (fields : FieldLists) (word : List ℕ) (f : WrittenField) → AreNamesOf names fields → WritesField Message word f → list_any (bytes_eq f.name) names ≡ false
      → field_behind message (building what names fields) word ≡ Some (building what (names ++ f.name ∷ []) (pushed 64 fields (field_within f)))
  field_again what names fields word f are is new =
      let b : Built = building what names fields in
      let begun : Built = building what (names ++ f.name ∷ []) fields in
      let v = is.values_are in
      let some = some_gots is.text v.texts v.gots v.joined v.each in
      let added = all_added what names fields f.name f.content.kind v.gots are is.name_is new some (all_good v.texts v.gots f.content.kind v.each v.one_kind) in
      let kept : at_most 255 (all_within v.gots) ≡ f.content.values = sym v.kept in
      field_steps b word
      ∙ ap (λ (w : List ℕ). field_split w >>= begun_step b) is.word_is
      ∙ ap (λ (o : Option (List ℕ × List ℕ)). o >>= begun_step b) (split_again f.name is.text is.name_is)
      ∙ ap (λ (t : Bool). where_true (not t) begun >>= λ x. pieces_step (f.name, is.text) x) new
      ∙ ap (λ (o : Option (List (List ℕ))). o >>= λ texts. values_step f.name begun texts) (joined_again is.text v.texts v.joined)
      ∙ ap (λ (o : Option (Limited MessageData)). o >>= λ m. some_built (names ++ f.name ∷ []) m) (content_again is.text v.texts v.gots f.name f.content.kind (limited_map (with_fields what) fields) v.joined v.each v.one_kind)
      ∙ ap (λ (m : Limited MessageData). some_built (names ++ f.name ∷ []) m) added
      ∙ ap (λ (values : Limited (List ValueData)). done (building what (names ++ f.name ∷ []) (pushed 64 fields (limited_map (λ (vs : List ValueData). field f.name f.content.kind vs) values)))) kept
    where
      some_built : List (List ℕ) → Limited MessageData → Option Built
      some_built ns x = Some (record { names = ns; message = x })

  -- ---- all fields
  record AreFields (what : ℕ) (names : List (List ℕ)) (fields : FieldLists) (words : List (List ℕ)) (out : Built) : Type 0 where
    written : List WrittenField
    each : AllZip (WritesField Message) words written
    new : AreNew names written
    out_is : out.message ≡ limited_map (with_fields what) (pushed_all field_within 64 fields written)

  names_grow : (names : List (List ℕ)) (fields : FieldLists) (f : WrittenField) → AreNamesOf names fields → AreNamesOf (names ++ f.name ∷ []) (pushed 64 fields (field_within f))
  names_grow names fields f are = names_pushed names fields f.name f.content.kind f.content.values are

  fields_take : (words : List (List ℕ)) (what : ℕ) (names : List (List ℕ)) (fields : FieldLists) (out : Built) → AreNamesOf names fields → fields_behind message words (building what names fields) ≡ Some out
      → AreFields what names fields words out
  unfolding fields_behind
  fields_take [] what names fields out are e = record { written = []; each = tt; new = tt; out_is = ap (λ (b : Built). b.message) (sym (some_is (building what names fields) out e)) }
  fields_take (word ∷ words) what names fields out are e =
      let s = bind_some (field_behind message (building what names fields) word) (λ more. fields_behind message words more) out e in
      let f = field_takes what names fields word s.0 are s.1 in
      let rest : fields_behind message words (building what (names ++ f.field.name ∷ []) (pushed 64 fields (field_within f.field))) ≡ Some out = subst (λ (b : Built). fields_behind message words b ≡ Some out) f.out_is s.2 in
      let later = fields_take words what (names ++ f.field.name ∷ []) (pushed 64 fields (field_within f.field)) out (names_grow names fields f.field are) rest in
      record { written = f.field ∷ later.written; each = (f.written, later.each); new = (f.new, later.new); out_is = later.out_is }

  fields_again : (words : List (List ℕ)) (fs : List WrittenField) (what : ℕ) (names : List (List ℕ)) (fields : FieldLists) → AreNamesOf names fields → AllZip (WritesField Message) words fs → AreNew names fs
      → (out : Built) × (fields_behind message words (building what names fields) ≡ Some out) × (out.message ≡ limited_map (with_fields what) (pushed_all field_within 64 fields fs))
  unfolding fields_behind
  fields_again [] [] what names fields are each new = (building what names fields, refl, refl)
  fields_again [] (f ∷ fs) what names fields are each new = absurd each
  fields_again (word ∷ words) [] what names fields are each new = absurd each
  fields_again (word ∷ words) (f ∷ fs) what names fields are each new =
      let one = field_again what names fields word f are each.0 new.0 in
      let later = fields_again words fs what (names ++ f.name ∷ []) (pushed 64 fields (field_within f)) (names_grow names fields f are) each.1 new.1 in
      (later.0, ap (λ (o : Option Built). o >>= λ more. fields_behind message words more) one ∙ later.1, later.2)

  -- ---- a message from its words
  written_same : (fs : List WrittenField) → all_of field_within fs ≡ fields_within fs
  written_same [] = refl
  written_same (f ∷ fs) = ap (λ (rest : FieldLists). onto_all (field_within f) rest) (written_same fs)

  gathered_fields : (what : ℕ) (fs : List WrittenField) → limited_map (with_fields what) (pushed_all field_within 64 (Within []) fs) ≡ message_within what (at_most 64 (fields_within fs))
  gathered_fields what fs = ap (λ (fields : FieldLists). limited_map (with_fields what) fields) (gathered_is field_within 64 fs ∙ ap (λ (fields : FieldLists). at_most 64 fields) (written_same fs))

  pub words_take : (words : List (List ℕ)) (m : Limited MessageData) → message_of message words ≡ Some m → WritesWords Message words m
  unfolding message_of
  words_take [] m e = absurd cc
  words_take (word ∷ words) m e =
      let s = bind_some (code_from word) (λ what. fields_behind message words (building what [] (Within [])) >>= λ b. Some b.message) m e in
      let b = bind_some (fields_behind message words (building s.0 [] (Within []))) (λ b. Some b.message) m s.2 in
      let f = fields_take words s.0 [] (Within []) b.0 refl b.1 in
      record {
        word = word;
        texts = words;
        words_are = refl;
        what = s.0;
        what_is = code_number word s.0 s.1;
        fields = f.written;
        fields_are = f.each;
        names_differ = pairs_from_new f.written [] (λ i j d lt last. absurd (omega arith)) f.new;
        kept = sym (some_is b.0.message m b.2) ∙ f.out_is ∙ gathered_fields s.0 f.written;
      }

  pub words_again : (words : List (List ℕ)) (m : Limited MessageData) → WritesWords Message words m → message_of message words ≡ Some m
  unfolding message_of
  words_again words m is =
      let f = fields_again is.texts is.fields is.what [] (Within []) refl is.fields_are (new_from_pairs is.fields [] is.names_differ) in
      ap (λ (ws : List (List ℕ)). message_of message ws) is.words_are
      ∙ ap (λ (o : Option ℕ). o >>= λ what. fields_behind message is.texts (building what [] (Within [])) >>= λ b. Some b.message) (code_again is.word is.what is.what_is)
      ∙ ap (λ (o : Option Built). o >>= λ b. Some b.message) f.1
      ∙ ap (λ (x : Limited MessageData). done x) (f.2 ∙ gathered_fields is.what is.fields ∙ sym is.kept)
