-- An added specifier is the current one.
use Rattle.std.proofs.Common.{◌≡◌, ◌≤◌, ◌+◌, ℕ, zero, suc, Option, Bool, true, false, cond, List, [], ◌∷◌, length, codes, None, Some, refl, ap, ◌∙◌, length-append, arith}
use Rattle.std.specs.Option.{option_and_then}
use Rattle.std.specs.Str.{bytes_eq}
use Rattle.ak_message.specs.declared.kind.Kind.TheVariants as k
use Rattle.ak_message.specs.declared.fault.AddFault.TheVariants as add
use Rattle.ak_message.specs.declared.specifier.At.{At}
use Rattle.ak_message.specs.declared.specifier.At.TheVariants as at
use Rattle.ak_message.specs.declared.specifier.Specifier.{Specifier}
use Rattle.ak_message.specs.Kind.{is_same_kind}
use Rattle.ak_message.specs.Message.{FieldData, MessageData, value_of_message}
use Rattle.ak_message.specs.MessageCode.{message_at-value}
use Rattle.ak_message.specs.Fields.{is_named, field_named, added, with_value, place_fault, depth_fault, or_fault, add_fault, value_count, value_count_in, specifier_count_in}
use Rattle.ak_message.proofs.Surface.{added_values_are_found-proof}
use Rattle.ak_base.proofs.Surface.{passed}
use Rattle.ak_specifier.specs.Specifier.{specifier_message, specifier_in}
use Rattle.ak_specifier.specs.Current.{left_of, last_specifier, specifier_fault, with_specifier, message_of_found}
use Rattle.ak_specifier.specs.Laws.{AddedIsCurrent, PopShowsTheOneBefore}

-- ---- one more is counted
module _ (m : MessageData) (name : List ℕ) (count : ℕ) where
  counted-here : (f : FieldData) → place_fault count (Some f) k.Message ≡ None → specifier_count_in (Some (with_value f (value_of_message m))) ≡ suc (length f.values)
  counted-here f none =
      let same = passed (is_same_kind f.kind k.Message) _ add.BadType none in
      rw same.0 (omega (arith, length-append f.values (value_of_message m ∷ [])))

  counted-behind
      : (f : FieldData) (fs more : List FieldData) (b : Bool)
      → is_named name f ≡ b
      → place_fault count (cond b (Some f) (field_named fs name)) k.Message ≡ None
      → (place_fault count (field_named fs name) k.Message ≡ None → specifier_count_in (field_named more name) ≡ suc (value_count fs name))
      → specifier_count_in (field_named (cond b (with_value f (value_of_message m) ∷ fs) (f ∷ more)) name)
      ≡ suc (value_count_in (cond b (Some f) (field_named fs name)))
  counted-behind f fs more true e none h = rw e (counted-here f none)
  counted-behind f fs more false e none h = rw e (h none)

  counted
      : (fs : List FieldData)
      → bytes_eq name name ≡ true
      → place_fault count (field_named fs name) k.Message ≡ None
      → specifier_count_in (field_named (added fs name (value_of_message m)) name) ≡ suc (value_count fs name)
  counted [] self none = rw self refl
  counted (f ∷ fs) self none = counted-behind f fs _ (is_named name f) refl none (counted fs self)

-- ---- a written specifier is no deep message, and is read back
shallow : (property : List ℕ) (a : At) → depth_fault (value_of_message (specifier_message (record { property = property; at = a }))) ≡ None
shallow property at.Direct = refl
shallow property (at.Index i) = refl
shallow property (at.Reverse i) = refl
shallow property (at.Range i count) = refl
shallow property (at.ReverseRange i count) = refl
shallow property (at.Name name) = refl
shallow property (at.Id id) = refl

read_back : (property : List ℕ) (a : At) → specifier_in (specifier_message (record { property = property; at = a })) ≡ Some (record { property = property; at = a })
read_back property at.Direct = refl
read_back property (at.Index i) = refl
read_back property (at.Reverse i) = refl
read_back property (at.Range i count) = refl
read_back property (at.ReverseRange i count) = refl
read_back property (at.Name name) = refl
read_back property (at.Id id) = refl

fits : (m : MessageData) (s : Specifier) → specifier_fault m ≡ None → add_fault m.fields (codes "specifiers") (value_of_message (specifier_message s)) ≡ None
fits m s none =
    ap (λ o. or_fault o (depth_fault (value_of_message (specifier_message s)))) none ∙ shallow s.property s.at

pub added_is_current : AddedIsCurrent
added_is_current m s none =
    let value = value_of_message (specifier_message s) in
    let count = counted (specifier_message s) (codes "specifiers") (length m.fields) m.fields refl none in
    let left : left_of (with_specifier m s) ≡ suc (value_count m.fields (codes "specifiers")) = omega (arith, count) in
    let found = (added_values_are_found-proof m.fields (codes "specifiers") value (fits m s none)).last in
    ap (λ n. option_and_then specifier_in (last_specifier (with_specifier m s) n)) left
    ∙ ap (λ r. option_and_then specifier_in (message_of_found r)) found
    ∙ ap specifier_in (message_at-value (specifier_message s))
    ∙ read_back s.property s.at

-- ---- once it is popped, the one before it is current
all_counted : (count : ℕ) (o : Option FieldData) → place_fault count o k.Message ≡ None → specifier_count_in o ≡ value_count_in o
all_counted count None none = refl
all_counted count (Some f) none = let same = passed (is_same_kind f.kind k.Message) _ add.BadType none in rw same.0 refl

before
    : (m : MessageData) (s : Specifier) (n place : ℕ)
    → specifier_fault m ≡ None → place ≤ value_count m.fields (codes "specifiers")
    → last_specifier (record (with_specifier m s) { popped = n }) place ≡ last_specifier m place
before m s n zero none h = refl
before m s n (suc place) none h =
    ap message_of_found
    ((added_values_are_found-proof m.fields (codes "specifiers") (value_of_message (specifier_message s)) (fits m s none)).earlier place h)

pub pop_shows_the_one_before : PopShowsTheOneBefore
pop_shows_the_one_before m s n none within =
    let count = counted (specifier_message s) (codes "specifiers") (length m.fields) m.fields refl none in
    let same = all_counted (length m.fields) (field_named m.fields (codes "specifiers")) none in
    let left : left_of (record (with_specifier m s) { popped = n + 1 }) ≡ left_of (record m { popped = n }) = omega (arith, count, same) in
    let there : left_of (record m { popped = n }) ≤ value_count m.fields (codes "specifiers") = omega (arith, same) in
    ap (λ k. option_and_then specifier_in (last_specifier (record (with_specifier m s) { popped = n + 1 }) k)) left
    ∙ ap (option_and_then specifier_in) (before m s (n + 1) (left_of (record m { popped = n })) none there)
