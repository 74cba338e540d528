-- What is printed of a message is read back from those bytes, and from no others.
use Rattle.std.proofs.Common.{◌≡◌, ℕ, List, Option, Some, None, refl, sym, ap, subst, ◌∙◌}
use Rattle.std.proofs.lemmas.Option.{none-some, same_Some}
use Rattle.std.specs.Prelude.{option_map}
use Rattle.ak_base.specs.declared.limited.Limited.{Limited}
use Rattle.ak_base.specs.declared.limited.Limited.TheVariants.{Within}
use Rattle.ak_input.specs.Laws.{PrintedValuesAreRead}
use Rattle.ak_message.specs.Message.{ValueData, MessageData, nested_fields, value_of_message, message_of_nested}
use Rattle.ak_message.specs.MessageCode.{listed_fields-nested}
use Rattle.ak_input.specs.MessageText.{message_text, value_text}
use Rattle.ak_message.specs.Popped.{unpopped}
use Rattle.ak_input.specs.Reading.{read_value}
use Rattle.ak_message.specs.Whole.{FitsValue, IsWhole}
use Rattle.ak_message.specs.Fields.{IsMessage}
use Rattle.ak_input.proofs.Surface.{text-unpopped}
use Rattle.ak_message.proofs.Surface.{is_unpopped, whole-unpopped}
use Rattle.ak_print.specs.Reading.{IsPrintedOf, in_braces, message_among}

-- ---- a message as a value
again : (m : MessageData) → message_of_nested m.what (nested_fields m.fields) m.popped ≡ m
again m = λ i. record { what = m.what; fields = listed_fields-nested m.fields i; popped = m.popped }

pub among-message : (m : MessageData) → message_among (Some (Within (value_of_message m))) ≡ Some m
among-message m = ap (λ (n : MessageData). Some n) (again m)

pub ruleset inside = (among-message)

text-value : (m : MessageData) → value_text (value_of_message m) ≡ in_braces (message_text m)
text-value m = refl

-- ---- the text does not tell what is popped
unpopped_is_printed : (m : MessageData) (text : List ℕ) → IsWhole m → message_text m ≡ text → IsPrintedOf (unpopped m) text
unpopped_is_printed m text whole is = record { printed = text-unpopped m ∙ is; whole = whole-unpopped m whole; unpopped = is_unpopped m }

-- ---- reading
abbrev read_within : List ℕ → Option (Limited ValueData)
read_within text = option_map (λ g. g.value) (read_value (in_braces text))

read_again : PrintedValuesAreRead → (m : MessageData) (text : List ℕ) → IsPrintedOf m text → read_within text ≡ Some (Within (value_of_message m))
read_again law m text is =
    let fits : FitsValue (value_of_message m) = (subst IsMessage (sym (again m)) is.whole.0, is.whole.1) in
    let word : in_braces text ≡ value_text (value_of_message m) = ap in_braces (sym is.printed) ∙ sym (text-value m) in
    ap (λ (w : List ℕ). option_map (λ g. g.value) (read_value w)) word ∙ ap (λ o. option_map (λ g. g.value) o) (law (value_of_message m) fits is.unpopped)

-- what is printed of a message is read as it
pub reads : PrintedValuesAreRead → (m : MessageData) (text : List ℕ) → IsPrintedOf m text → message_among (read_within text) ≡ Some m
reads law m text is = ap message_among (read_again law m text is) ∙ among-message m

-- what is printed of a message is read as it with nothing popped
pub reads_unpopped : PrintedValuesAreRead → (m : MessageData) (text : List ℕ) → IsWhole m → message_text m ≡ text → message_among (read_within text) ≡ Some (unpopped m)
reads_unpopped law m text whole is = reads law (unpopped m) text (unpopped_is_printed m text whole is)

-- what is read and has that text is a message with nothing popped
pub is_found : PrintedValuesAreRead → (m : MessageData) (text : List ℕ) → IsWhole m → message_text m ≡ text → Some m ≡ message_among (read_within text) → IsPrintedOf m text
is_found law m text whole is read =
    let same : m ≡ unpopped m = same_Some m (unpopped m) (read ∙ reads_unpopped law m text whole is) in
    subst (λ (n : MessageData). IsPrintedOf n text) (sym same) (unpopped_is_printed m text whole is)

-- where nothing is read, no message has that text
pub is_none : PrintedValuesAreRead → (m : MessageData) (text : List ℕ) → None ≡ message_among (read_within text) → IsWhole m → message_text m ≡ text → ⊥
is_none law m text read whole is = none-some (unpopped m) (read ∙ reads_unpopped law m text whole is)

-- where what is read has another text, no message has that text
pub is_other : PrintedValuesAreRead → (m n : MessageData) (text : List ℕ) → Some n ≡ message_among (read_within text) → (message_text n ≡ text → ⊥) → IsWhole m → message_text m ≡ text → ⊥
is_other law m n text read other whole is =
    let same : n ≡ unpopped m = same_Some n (unpopped m) (read ∙ reads_unpopped law m text whole is) in
    other (ap message_text same ∙ text-unpopped m ∙ is)
