-- A specifier is read exactly where the message shows it.
use Rattle.std.proofs.Common.{◌≡◌, ◌==◌, ℕ, ℤ, cond, inl, inr, List, codes, Option, Some, None, Result, Ok, Err, refl, subst}
use Rattle.std.specs.Option.{option_map, option_and_then}
use Rattle.std.proofs.lemmas.Bool.{cases_Bool, eqb-true}
use Rattle.std.proofs.lemmas.Option.{option_and_then_some, same_Some}
use Rattle.ak_message.specs.declared.kind.Kind.TheVariants as k
use Rattle.ak_message.specs.declared.fault.FindFault.{FindFault}
use Rattle.ak_message.specs.declared.specifier.At.{At}
use Rattle.ak_message.specs.declared.specifier.At.TheVariants as at
use Rattle.ak_message.specs.declared.specifier.Specifier.{Specifier}
use Rattle.ak_message.specs.Message.{ValueData, bool_value, int8_value, int16_value, int32_value, int64_value, uint8_value, uint16_value, uint32_value, uint64_value, text_value, message_value, messenger_value, raw_value, FieldData, MessageData}
use Rattle.ak_message.specs.Fields.{found_in}
use Rattle.ak_message.specs.Specifier.{form_of}
use Rattle.ak_specifier.specs.Specifier.{HasNumber, HasText, ShowsForm, Shows, number_of, number_in, text_of, text_in, at_in, specifier_in}
use Rattle.ak_specifier.specs.Laws.{ReadAsShown}

-- ---- what a search gave
number_found : (r : Result ValueData FindFault) (n : ℤ) → number_of r ≡ Some n → r ≡ Ok (int32_value n)
number_found (Ok (bool_value x)) n e = absurd cc
number_found (Ok (int8_value x)) n e = absurd cc
number_found (Ok (int16_value x)) n e = absurd cc
number_found (Ok (int32_value x)) n e = cc
number_found (Ok (int64_value x)) n e = absurd cc
number_found (Ok (uint8_value x)) n e = absurd cc
number_found (Ok (uint16_value x)) n e = absurd cc
number_found (Ok (uint32_value x)) n e = absurd cc
number_found (Ok (uint64_value x)) n e = absurd cc
number_found (Ok (text_value x)) n e = absurd cc
number_found (Ok (message_value x fs popped)) n e = absurd cc
number_found (Ok (messenger_value x)) n e = absurd cc
number_found (Ok (raw_value x)) n e = absurd cc
number_found (Err f) n e = absurd cc

text_found : (r : Result ValueData FindFault) (t : List ℕ) → text_of r ≡ Some t → r ≡ Ok (text_value t)
text_found (Ok (bool_value x)) t e = absurd cc
text_found (Ok (int8_value x)) t e = absurd cc
text_found (Ok (int16_value x)) t e = absurd cc
text_found (Ok (int32_value x)) t e = absurd cc
text_found (Ok (int64_value x)) t e = absurd cc
text_found (Ok (uint8_value x)) t e = absurd cc
text_found (Ok (uint16_value x)) t e = absurd cc
text_found (Ok (uint32_value x)) t e = absurd cc
text_found (Ok (uint64_value x)) t e = absurd cc
text_found (Ok (text_value x)) t e = cc
text_found (Ok (message_value x fs popped)) t e = absurd cc
text_found (Ok (messenger_value x)) t e = absurd cc
text_found (Ok (raw_value x)) t e = absurd cc
text_found (Err f) t e = absurd cc

-- ---- what is shown is read
form_read : (fields : List FieldData) (a : At) → ShowsForm fields a → at_in (form_of a) fields ≡ Some a
form_read fields at.Direct h = refl
form_read fields (at.Index i) h = rw h refl
form_read fields (at.Reverse i) h = rw h refl
form_read fields (at.Range i count) h = rw (h.0, h.1) refl
form_read fields (at.ReverseRange i count) h = rw (h.0, h.1) refl
form_read fields (at.Name name) h = rw h refl
form_read fields (at.Id id) h = rw h refl

read : (m : MessageData) (s : Specifier) → Shows m s → specifier_in m ≡ Some s
read m s h = rw (h.property, h.form, form_read m.fields s.at h.at) refl

-- ---- what is read is shown
record IsForm (form : ℕ) (fields : List FieldData) (a : At) : Type 0 where
  is : form ≡ form_of a
  shown : ShowsForm fields a

-- a form with one part
one_part
    : {X : Type 0} (form : ℕ) (fields : List FieldData) (make : X → At) (part : Option X) (a : At)
    → ((x : X) → part ≡ Some x → IsForm form fields (make x))
    → option_map make part ≡ Some a
    → IsForm form fields a
one_part form fields make None a then e = absurd cc
one_part form fields make (Some x) a then e = subst (IsForm form fields) (same_Some _ _ e) (then x refl)

-- a form with two parts
two_parts
    : {X : Type 0} (form : ℕ) (fields : List FieldData) (make : X → X → At) (first second : Option X) (a : At)
    → ((x y : X) → first ≡ Some x → second ≡ Some y → IsForm form fields (make x y))
    → option_and_then (λ x. option_map (λ y. make x y) second) first ≡ Some a
    → IsForm form fields a
two_parts form fields make None second a then e = absurd cc
two_parts form fields make (Some x) second a then e =
    one_part form fields (λ y. make x y) second a (λ y read. then x y refl read) e

number : (fields : List FieldData) (name : List ℕ) (n : ℤ) → number_in fields name ≡ Some n → HasNumber fields name n
number fields name n e = number_found (found_in fields name k.Int32 0) n e

text : (fields : List FieldData) (name : List ℕ) (t : List ℕ) → text_in fields name ≡ Some t → HasText fields name t
text fields name t e = text_found (found_in fields name k.Text 0) t e

-- where the test of a form holds, what follows is read, else what the next tests read
next
    : (form n : ℕ) (fields : List FieldData) (this other : Option At) (a : At)
    → (form ≡ n → this ≡ Some a → IsForm form fields a)
    → (other ≡ Some a → IsForm form fields a)
    → cond (form == n) this other ≡ Some a
    → IsForm form fields a
next form n fields this other a then else e =
    elim (cases_Bool (form == n)) [
      | inl same ↦ then (eqb-true form n same) (rw same at e)
      | inr differs ↦ else (rw differs at e)
    ]

form_shown : (form : ℕ) (fields : List FieldData) (a : At) → at_in form fields ≡ Some a → IsForm form fields a
form_shown form fields a =
    next form 1 fields _ _ a (λ is e. subst (IsForm form fields) (same_Some _ _ e) (record { is = is; shown = tt }))
    (next form 2 fields _ _ a
    (λ is. one_part form fields at.Index _ a (λ i read. record { is = is; shown = number fields (codes "index") i read }))
    (next form 3 fields _ _ a
    (λ is. one_part form fields at.Reverse _ a (λ i read. record { is = is; shown = number fields (codes "index") i read }))
    (next form 4 fields _ _ a
    (λ is. two_parts form fields at.Range _ _ a (λ i count read also. record { is = is; shown = (number fields (codes "index") i read, number fields (codes "range") count also) }))
    (next form 5 fields _ _ a
    (λ is. two_parts form fields at.ReverseRange _ _ a (λ i count read also. record { is = is; shown = (number fields (codes "index") i read, number fields (codes "range") count also) }))
    (next form 6 fields _ _ a
    (λ is. one_part form fields at.Name _ a (λ name read. record { is = is; shown = text fields (codes "name") name read }))
    (next form 7 fields _ _ a
    (λ is. one_part form fields at.Id _ a (λ id read. record { is = is; shown = number fields (codes "id") id read }))
    (λ e. absurd cc)))))))

property_shown
    : (m : MessageData) (s : Specifier) (property : List ℕ) (a : At)
    → text_in m.fields (codes "property") ≡ Some property
    → at_in m.what m.fields ≡ Some a
    → record { property = property; at = a } ≡ s
    → Shows m s
property_shown m s property a e form same =
    let is = form_shown m.what m.fields a form in
    subst (Shows m) same (record { form = is.is; property = text m.fields (codes "property") property e; at = is.shown })

at_shown
    : (m : MessageData) (s : Specifier) (property : List ℕ)
    → text_in m.fields (codes "property") ≡ Some property
    → (o : Option At)
    → at_in m.what m.fields ≡ o
    → option_map (λ a. record { property = property; at = a }) o ≡ Some s
    → Shows m s
at_shown m s property read None form e = absurd cc
at_shown m s property read (Some a) form e = property_shown m s property a read form (same_Some _ _ e)

shown : (m : MessageData) (s : Specifier) → specifier_in m ≡ Some s → Shows m s
shown m s e =
    option_and_then_some _ _ s e (λ property read more. at_shown m s property read (at_in m.what m.fields) refl more)

pub read_as_shown : ReadAsShown
read_as_shown m s = (shown m s, read m s)
