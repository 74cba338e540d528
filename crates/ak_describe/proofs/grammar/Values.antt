-- Values in a line: what is read of them is what the grammar says.
use Rattle.std.proofs.Common.{◌≡◌, ◌↔◌, ℕ, Bool, true, false, cond, ltb, List, [], ◌∷◌, ◌++◌, length, Option, Some, None, IfSome, refl, sym, ap, subst, ◌∙◌, arith}
use Rattle.std.specs.Prelude.{option_map}
use Rattle.std.proofs.lemmas.Bool.{eq-eqb, lt-ltb}
use Rattle.std.proofs.lemmas.Option.{same_Some}
use Rattle.ak_base.specs.declared.limited.Limited.{Limited}
use Rattle.ak_base.specs.declared.limited.Limited.TheVariants.{Within, Over}
use Rattle.ak_message.specs.declared.kind.Kind.{Kind}
use Rattle.ak_message.specs.Kind.{is_same_kind, code_of_kind, same_kind-is}
use Rattle.ak_message.specs.Message.{ValueData, bool_value, int8_value, int16_value, int32_value, int64_value, uint8_value, uint16_value, uint32_value, uint64_value, text_value, message_value, messenger_value, raw_value, kind_of, depth_of_value}
use Rattle.ak_base.specs.Option.{where_true, ◌>>=◌}
use Rattle.ak_input.specs.Reading as reading
use Rattle.ak_input.specs.Reading.{Got, GotValues, got, value_with, joined, first_values, more_values, values_behind, message_from, read_value, read_values}
use Rattle.ak_input.specs.Said.{WritesValue}
use Rattle.ak_input.proofs.Surface.{Holds, IfWithin, IsFine, fields_are_written, message_fine, read_fine, some_any, some_then, value_fine, values_are_written}
use Rattle.ak_base.proofs.Surface.{bind_some, cond_some}
use Rattle.ak_action.specs.declared.number.Number.{Number}
use Rattle.ak_action.specs.declared.number.Number.TheVariants as n
use Rattle.ak_action.specs.declared.template.Given.{Given}
use Rattle.ak_action.specs.declared.template.Given.TheVariants as gets
use Rattle.ak_action.specs.Number.{number_value, number_of, number_kind}
use Rattle.ak_action.specs.Values.{ValuesData, one_value}
use Rattle.ak_describe.specs.Actions.{given_values}
use Rattle.ak_describe.specs.Grammar.{AreValues, IsOne, set_value}
use Rattle.ak_describe.specs.Made.{limited_then, number_of_kind, number_in, number_from, with_value, values_of, values_kept, values_from, is_short, one_kept, one_from}

-- ---- the values of a field: those that are read are kept as they are
abbrev held_values : Kind → List ValueData → Option ValuesData
held_values kind vs = Some (record { kind = kind; list = vs })

abbrev held : Kind → List ValueData → Option (Option ValuesData)
held kind vs = Some (Some (record { kind = kind; list = vs }))

abbrev got_values : Kind → Limited (List ValueData) → GotValues
got_values kind values = record { kind = kind; values = values }

abbrev IsHeld : GotValues → Type 0
IsHeld read = IfWithin read.values (λ vs. values_of None vs ≡ held read.kind vs)

values-append : (vs ws : List ValueData) (all : Option ValuesData) → values_of all (vs ++ ws) ≡ (values_of all vs >>= λ more. values_of more ws)
unfolding values_of
values-append [] ws all = refl
values-append (v ∷ vs) ws all = after (with_value all v) (λ more. values-append vs ws (Some more)) where
  after : (o : Option ValuesData) → ((more : ValuesData) → values_of (Some more) (vs ++ ws) ≡ (values_of (Some more) vs >>= λ all. values_of all ws))
      → (o >>= λ more. values_of (Some more) (vs ++ ws)) ≡ ((o >>= λ more. values_of (Some more) vs) >>= λ all. values_of all ws)
  after None h = refl
  after (Some more) h = h more

one_held : (kind : Kind) (v : ValueData) → Holds 15 kind v → values_of None (v ∷ []) ≡ held kind (v ∷ [])
unfolding values_of
one_held kind v h =
    let shallow : ltb (depth_of_value v) 16 ≡ true = lt-ltb (depth_of_value v) 16 (omega (arith, h.shallow)) in
    rw (shallow, h.kind_is) refl

last_held : (kind : Kind) (vs : List ValueData) (v : ValueData) → Holds 15 kind v → ltb (length vs) 255 ≡ true → values_of (held_values kind vs) (v ∷ []) ≡ held kind (vs ++ v ∷ [])
unfolding values_of
last_held kind vs v h room =
    let same : is_same_kind kind (kind_of v) ≡ true = eq-eqb (code_of_kind kind) (code_of_kind (kind_of v)) (ap code_of_kind (sym h.kind_is)) in
    let shallow : ltb (depth_of_value v) 16 ≡ true = lt-ltb (depth_of_value v) 16 (omega (arith, h.shallow)) in
    rw (same, room, shallow) refl

more_held : (kind : Kind) (vs : List ValueData) (v : ValueData) → Holds 15 kind v → ltb (length vs) 255 ≡ true
    → values_of None vs ≡ held kind vs → values_of None (vs ++ v ∷ []) ≡ held kind (vs ++ v ∷ [])
more_held kind vs v h room before =
    values-append vs (v ∷ []) None ∙ ap (λ (o : Option (Option ValuesData)). o >>= λ more. values_of more (v ∷ [])) before ∙ last_held kind vs v h room

first_held : (v : Got) → IsFine 15 v → IsHeld (first_values v)
first_held v fine = by_value v.kind v.value fine where
  by_value : (kind : Kind) (value : Limited ValueData) → IfWithin value (Holds 15 kind) → IfWithin (joined (Within []) value) (λ vs. values_of None vs ≡ held kind vs)
  by_value kind Over fine = tt
  by_value kind (Within x) fine = one_held kind x fine

join_held : (kind : Kind) (read : Limited (List ValueData)) (value : Limited ValueData) → IfWithin read (λ vs. values_of None vs ≡ held kind vs) → IfWithin value (Holds 15 kind)
    → IfWithin (joined read value) (λ vs. values_of None vs ≡ held kind vs)
join_held kind Over value h fine = tt
join_held kind (Within vs) Over h fine = tt
join_held kind (Within vs) (Within v) h fine = by_room (ltb (length vs) 255) refl where
  by_room : (room : Bool) → ltb (length vs) 255 ≡ room → IfWithin (cond room (Within (vs ++ v ∷ [])) Over) (λ vs. values_of None vs ≡ held kind vs)
  by_room true is = more_held kind vs v fine is h
  by_room false is = tt

joined_held : (read : GotValues) (v : Got) → IsHeld read → IsFine 15 v → IfSome (more_values read v) IsHeld
joined_held read v h fine = by_kind (is_same_kind v.kind read.kind) refl where
  by_kind : (same : Bool) → is_same_kind v.kind read.kind ≡ same → IfSome (where_true same (got_values read.kind (joined read.values v.value))) IsHeld
  by_kind true is = join_held read.kind read.values v.value h (subst (λ (kind : Kind). IfWithin v.value (Holds 15 kind)) (same_kind-is v.kind read.kind is) fine)
  by_kind false is = tt

behind_held : (texts : List (List ℕ)) (read : GotValues) → IsHeld read → IfSome (values_behind (message_from 15) texts read) IsHeld
unfolding values_behind
behind_held [] read h = h
behind_held (text ∷ texts) read h =
    some_then (IsFine 15) IsHeld (value_with (message_from 15) text) _ (value_fine 15 (message_from 15) (message_fine 15) text)
    (λ v fine. some_then IsHeld IsHeld (more_values read v) _ (joined_held read v h fine)
    (λ more held_more. behind_held texts more held_more))

all_held : (texts : List (List ℕ)) → IfSome (reading.values_of (message_from 15) texts) IsHeld
unfolding reading.values_of
all_held [] = tt
all_held (text ∷ texts) =
    some_then (IsFine 15) IsHeld (value_with (message_from 15) text) _ (value_fine 15 (message_from 15) (message_fine 15) text)
    (λ v fine. behind_held texts (first_values v) (first_held v fine))

values_held : (text : List ℕ) → IfSome (read_values text) IsHeld
values_held text = some_any IsHeld _ _ (λ texts. all_held texts)

-- ---- what a field gets, by values
abbrev values_given : Option GotValues → Option (Limited Given)
values_given o = option_map given_values (option_map (λ (g : GotValues). g.values) o >>= values_kept)

values_given-is : (text : List ℕ) → option_map given_values (values_from text) ≡ values_given (read_values text)
unfolding values_from
values_given-is text = refl

abbrev GivesValues : Option GotValues → Limited Given → Type 0
GivesValues o Over = (kind : Kind) × (o ≡ Some (record { kind = kind; values = Over }))
GivesValues o (Within (gets.Values v)) = o ≡ Some (record { kind = v.kind; values = Within v.list })
GivesValues o (Within (gets.Field name)) = ⊥
GivesValues o (Within (gets.Property name)) = ⊥

abbrev some_values : Kind → Limited (List ValueData) → Option GotValues
some_values kind values = Some (record { kind = kind; values = values })

abbrev given_held : Kind → List ValueData → Option (Limited Given)
given_held kind vs = Some (Within (gets.Values (record { kind = kind; list = vs })))

given_as_held : (kind : Kind) (vs : List ValueData) → values_of None vs ≡ held kind vs → values_given (some_values kind (Within vs)) ≡ given_held kind vs
given_as_held kind vs h = rw h refl

abbrev holds_values : Option GotValues → Type 0
holds_values o = IfSome o IsHeld

values_gives : (o : Option GotValues) (g : Limited Given) → holds_values o → GivesValues o g → values_given o ≡ Some g
values_gives o Over h is = rw is.1 refl
values_gives o (Within (gets.Values v)) h is =
    let here : holds_values (some_values v.kind (Within v.list)) = subst holds_values is h in
    ap values_given is ∙ given_as_held v.kind v.list here
values_gives o (Within (gets.Field name)) h is = absurd is
values_gives o (Within (gets.Property name)) h is = absurd is

gives_some : (kind : Kind) (values : Limited (List ValueData)) (g : Limited Given) → holds_values (some_values kind values) → values_given (some_values kind values) ≡ Some g → GivesValues (some_values kind values) g
gives_some kind Over g h e =
    subst (GivesValues (some_values kind Over)) (same_Some {A = Limited Given} Over g e) (kind, refl)
gives_some kind (Within vs) g h e =
    subst (GivesValues (some_values kind (Within vs))) (same_Some {A = Limited Given} (Within (gets.Values (record { kind = kind; list = vs }))) g (sym (given_as_held kind vs h) ∙ e)) refl

gives_values : (o : Option GotValues) (g : Limited Given) → holds_values o → values_given o ≡ Some g → GivesValues o g
gives_values None g h e = absurd cc
gives_values (Some read) g h e = gives_some read.kind read.values g h e

are_given : (text : List ℕ) (g : Limited Given) → AreValues text g → GivesValues (read_values text) g
are_given text Over h = (h.0, (fields_are_written text (got_values h.0 Over)).0 h.1)
are_given text (Within (gets.Values v)) h = (fields_are_written text (got_values v.kind (Within v.list))).0 h
are_given text (Within (gets.Field name)) h = h
are_given text (Within (gets.Property name)) h = h

given_are : (text : List ℕ) (g : Limited Given) → GivesValues (read_values text) g → AreValues text g
given_are text Over h = (h.0, (fields_are_written text (got_values h.0 Over)).1 h.1)
given_are text (Within (gets.Values v)) h = (fields_are_written text (got_values v.kind (Within v.list))).1 h
given_are text (Within (gets.Field name)) h = h
given_are text (Within (gets.Property name)) h = h

pub values_are_read : (text : List ℕ) (g : Limited Given) → AreValues text g ↔ (option_map given_values (values_from text) ≡ Some g)
values_are_read text g = (
  λ h. values_given-is text ∙ values_gives (read_values text) g (values_held text) (are_given text g h),
  λ e. given_are text g (gives_values (read_values text) g (values_held text) (sym (values_given-is text) ∙ e)),
)

-- ---- what a property is set to, by one value
abbrev one_given : Option Got → Option (Limited Given)
one_given o = option_map given_values (option_map (limited_then one_kept) (option_map (λ (g : Got). g.value) o))

one_given-is : (text : List ℕ) → option_map given_values (one_from text) ≡ one_given (read_value text)
unfolding one_from
one_given-is text = refl

kept_small : (v : ValueData) (short : Bool) → given_values (cond short (Within (one_value v)) Over) ≡ cond short (Within (gets.Values (one_value v))) Over
kept_small v true = refl
kept_small v false = refl

one_is : (v : Limited ValueData) → given_values (limited_then one_kept v) ≡ set_value v
one_is Over = refl
one_is (Within v) = kept_small v (is_short v)

abbrev got_as : Kind → Limited ValueData → Got
got_as kind value = record { kind = kind; value = value }

abbrev some_value : Kind → Limited ValueData → Option Got
some_value kind value = Some (record { kind = kind; value = value })

abbrev GivesOne : Option Got → Limited Given → Type 0
GivesOne o g = (kind : Kind) × (value : Limited ValueData) × (o ≡ some_value kind value) × (g ≡ set_value value)

some_given : (kind : Kind) (value : Limited ValueData) → one_given (some_value kind value) ≡ Some (set_value value)
some_given kind value = ap (λ (g : Limited Given). Some g) (one_is value)

one_gives : (o : Option Got) (g : Limited Given) → GivesOne o g → one_given o ≡ Some g
one_gives o g h = ap one_given h.2 ∙ some_given h.0 h.1 ∙ ap (λ (x : Limited Given). Some x) (sym h.3)

gives_one : (o : Option Got) (g : Limited Given) → one_given o ≡ Some g → GivesOne o g
gives_one None g e = absurd cc
gives_one (Some read) g e =
    (read.kind, read.value, refl, sym (same_Some (set_value read.value) g (sym (some_given read.kind read.value) ∙ e)))

pub one_is_read : (text : List ℕ) (g : Limited Given) → IsOne text g ↔ (option_map given_values (one_from text) ≡ Some g)
one_is_read text g = (
  λ h. one_given-is text ∙ one_gives (read_value text) g (h.0, h.1, (values_are_written text (got_as h.0 h.1)).0 h.2, h.3),
  λ e. let h = gives_one (read_value text) g (sym (one_given-is text) ∙ e) in (h.0, h.1, (values_are_written text (got_as h.0 h.1)).1 h.2, h.3),
)

-- ---- numbers of a kind
abbrev number_got : Kind → Option Got → Option Number
number_got kind o = option_map (λ (g : Got). g.value) o >>= number_in kind

number_got-is : (kind : Kind) (text : List ℕ) → number_from kind text ≡ number_got kind (read_value text)
unfolding number_from
number_got-is kind text = refl

number_again : (x : Number) → number_of (number_value x) ≡ Some x
number_again (n.Int8 x) = refl
number_again (n.Int16 x) = refl
number_again (n.Int32 x) = refl
number_again (n.Int64 x) = refl
number_again (n.UInt8 x) = refl
number_again (n.UInt16 x) = refl
number_again (n.UInt32 x) = refl
number_again (n.UInt64 x) = refl

abbrev number : Number → Option Number
number x = Some x

abbrev as_value : Option Number → ValueData → ValueData
as_value None v = v
as_value (Some x) v = number_value x

as_number : (v : ValueData) → v ≡ as_value (number_of v) v
as_number (bool_value x) = refl
as_number (int8_value x) = refl
as_number (int16_value x) = refl
as_number (int32_value x) = refl
as_number (int64_value x) = refl
as_number (uint8_value x) = refl
as_number (uint16_value x) = refl
as_number (uint32_value x) = refl
as_number (uint64_value x) = refl
as_number (text_value x) = refl
as_number (message_value x y z) = refl
as_number (messenger_value x) = refl
as_number (raw_value x) = refl

number_is : (v : ValueData) (x : Number) → number_of v ≡ Some x → v ≡ number_value x
number_is v x e = as_number v ∙ ap (λ (o : Option Number). as_value o v) e

abbrev IsNumber : Option Got → Kind → Number → Type 0
IsNumber o kind x = (o ≡ Some (got (number_value x))) × (kind_of (number_value x) ≡ kind)

number_found : (kind : Kind) (x : Number) → kind_of (number_value x) ≡ kind → number_of_kind kind (number_value x) ≡ Some x
number_found kind x is =
    let same : is_same_kind (number_kind x) kind ≡ true = eq-eqb (code_of_kind (number_kind x)) (code_of_kind kind) (ap code_of_kind is) in
    rw (number_again x, same) refl

number_gives : (o : Option Got) (kind : Kind) (x : Number) → IsNumber o kind x → number_got kind o ≡ Some x
number_gives o kind x h = ap (number_got kind) h.0 ∙ number_found kind x h.1

value_gives : (kind told : Kind) (v : ValueData) (x : Number) → Holds 16 told v → number_of_kind kind v ≡ Some x → IsNumber (some_value told (Within v)) kind x
value_gives kind told v x fine e =
    let s = bind_some (number_of v) (λ m. where_true (is_same_kind (number_kind m) kind) m) x e in
    let t = cond_some (is_same_kind (number_kind s.0) kind) s.0 x s.2 in
    let is : v ≡ number_value x = number_is v s.0 s.1 ∙ ap number_value t.1 in
    let kind_is : kind_of (number_value x) ≡ kind = ap kind_of (ap number_value (sym t.1)) ∙ same_kind-is (number_kind s.0) kind t.0 in
    (ap (λ (k : Kind). some_value k (Within v)) (sym fine.kind_is) ∙ ap (λ (w : ValueData). Some (got w)) is, kind_is)

gives_number : (o : Option Got) (kind : Kind) (x : Number) → IfSome o (IsFine 16) → number_got kind o ≡ Some x → IsNumber o kind x
gives_number None kind x fine e = absurd cc
gives_number (Some read) kind x fine e = by_value read.kind read.value fine e where
  by_value : (told : Kind) (value : Limited ValueData) → IfWithin value (Holds 16 told) → number_in kind value ≡ Some x → IsNumber (some_value told value) kind x
  by_value told Over fine e = absurd cc
  by_value told (Within v) fine e = value_gives kind told v x fine e

pub number_is_read : (kind : Kind) (text : List ℕ) (x : Number) → (WritesValue text (got (number_value x)) × (kind_of (number_value x) ≡ kind)) ↔ (number_from kind text ≡ Some x)
number_is_read kind text x = (
  λ h. number_got-is kind text ∙ number_gives (read_value text) kind x ((values_are_written text (got (number_value x))).0 h.0, h.1),
  λ e. let h = gives_number (read_value text) kind x (read_fine text) (sym (number_got-is kind text) ∙ e) in ((values_are_written text (got (number_value x))).1 h.0, h.1),
)
