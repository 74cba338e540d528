-- What a message brings as the value of a command.
use Rattle.std.proofs.Common.{◌≡◌, ◌≢◌, ◌<◌, Bool, true, false, cond, List, [], ◌∷◌, length, codes, find, Option, None, Some, Result, Ok, Err, slice_get, refl, ap, sym, subst, ◌∙◌, arith, tests}
use Rattle.std.specs.List.{All}
use Rattle.std.proofs.lemmas.Bool.{false≢true}
use Rattle.std.proofs.lemmas.List.Elements.{All-head, All-tail}
use Rattle.ak_message.specs.declared.kind.Kind.{Kind}
use Rattle.ak_message.specs.Kind.{is_same_kind, same_kind-is}
use Rattle.ak_message.specs.Message.{ValueData, FieldData, MessageData, kind_of}
use Rattle.ak_message.specs.Fields.{is_named, value_in, IsField, IsMessage}
use Rattle.ak_value.specs.declared.fault.ElementFault.{ElementFault}
use Rattle.ak_value.specs.declared.fault.ElementFault.TheVariants as fault
use Rattle.ak_value.specs.Access.{data_of, data_found, data_field}

-- what is found is one of them
behind : {X : Type 0} (P : X → Type 0) (x y : X) (b : Bool) (rest : Option X) → cond b (Some x) rest ≡ Some y → P x → (rest ≡ Some y → P y) → P y
behind P x y true rest e here there =
    let same : x ≡ y = cc in
    subst P same here
behind P x y false rest e here there = there e

All-find : {X : Type 0} (P : X → Type 0) (p : X → Bool) (xs : List X) (y : X) → All P xs → find p xs ≡ Some y → P y
All-find P p [] y all e = absurd cc
All-find P p (x ∷ xs) y all e =
    behind P x y (p x) (find p xs) e (All-head P x xs all) (All-find P p xs y (All-tail P x xs all))

first_of : (P : ValueData → Type 0) (vs : List ValueData) → 0 < length vs → All P vs → (v : ValueData) × (slice_get vs 0 ≡ Some v) × P v
first_of P [] h all = absurd (omega arith)
first_of P (v ∷ vs) h all = (v, refl, All-head P v vs all)

same_kind-refl : (a b : Kind) → a ≡ b → is_same_kind a b ≡ true
same_kind-refl a b e = grind (arith, tests)

kinds_differ : (a b : Kind) (t : Bool) → is_same_kind a b ≡ t → a ≢ b → t ≡ false
kinds_differ a b true e h = absurd (h (same_kind-is a b e))
kinds_differ a b false e h = refl

refused_or : (r : Result ValueData ElementFault) (value : ValueData) (f : ElementFault) → r ≡ Err f → r ≡ Ok value → ⊥
refused_or r value f e h = absurd cc

same_value : (r : Result ValueData ElementFault) (a b : ValueData) → r ≡ Ok a → r ≡ Ok b → a ≡ b
same_value r a b e h = cc

module _ (kind : Kind) (m : MessageData) where
  pub no_data : data_field m ≡ None → data_of kind m ≡ Err fault.BadValue
  no_data e = ap (λ o. data_found (value_in o kind 0)) e

  pub other_data : (f : FieldData) → data_field m ≡ Some f → f.kind ≢ kind → data_of kind m ≡ Err fault.BadType
  other_data f e h =
      let no = kinds_differ f.kind kind (is_same_kind f.kind kind) refl h in
      ap (λ o. data_found (value_in o kind 0)) e ∙ rw no refl

  -- a value of that kind is brought
  pub record IsBrought : Type 0 where
    pub value : ValueData
    pub found : data_of kind m ≡ Ok value
    pub same_kind : kind_of value ≡ kind

  pub same_data : (f : FieldData) → data_field m ≡ Some f → f.kind ≡ kind → IsMessage m → IsBrought
  same_data f e same h =
      let sound : IsField f = All-find IsField (is_named (codes "data")) m.fields f h.every_field e in
      let first = first_of (λ v. kind_of v ≡ f.kind) f.values sound.filled sound.same_kind in
      let yes = same_kind-refl f.kind kind same in
      record {
        value = first.0;
        found = ap (λ o. data_found (value_in o kind 0)) e ∙ rw (yes, first.1) refl;
        same_kind = first.2 ∙ same;
      }

  pub data DataCase : Type 0 where
    no_field : data_field m ≡ None → DataCase
    other_kind : (f : FieldData) → data_field m ≡ Some f → f.kind ≢ kind → DataCase
    same_kind : (f : FieldData) → data_field m ≡ Some f → f.kind ≡ kind → DataCase

  by_kind : (f : FieldData) → data_field m ≡ Some f → (b : Bool) → is_same_kind f.kind kind ≡ b → DataCase
  by_kind f e true same = same_kind f e (same_kind-is f.kind kind same)
  by_kind f e false same = other_kind f e (λ h. false≢true (sym same ∙ same_kind-refl f.kind kind h))

  by_field : (o : Option FieldData) → data_field m ≡ o → DataCase
  by_field None e = no_field e
  by_field (Some f) e = by_kind f e (is_same_kind f.kind kind) refl

  pub data_cases : DataCase
  data_cases = by_field (data_field m) refl

  by_case : IsMessage m → (value : ValueData) → data_of kind m ≡ Ok value → DataCase → kind_of value ≡ kind
  by_case h value e (no_field none) = absurd (refused_or _ value _ (no_data none) e)
  by_case h value e (other_kind f some other) = absurd (refused_or _ value _ (other_data f some other) e)
  by_case h value e (same_kind f some same) =
      let b = same_data f some same h in
      ap kind_of (same_value _ value b.value e b.found) ∙ b.same_kind

  pub brought_kind : IsMessage m → (value : ValueData) → data_of kind m ≡ Ok value → kind_of value ≡ kind
  brought_kind h value e = by_case h value e data_cases
