-- What is read of a text is what the text says.
use Rattle.std.proofs.Common.{◌≡◌, ℕ, List, Option, Some, refl, sym, ap, subst, ◌∙◌, arith}
use Rattle.ak_base.proofs.Surface.{bind_some, some_is}
use Rattle.ak_base.specs.Option.{◌>>=◌}
use Rattle.ak_base.specs.declared.limited.Limited.{Limited}
use Rattle.ak_base.specs.declared.limited.Limited.TheVariants.{Within, Over}
use Rattle.ak_message.specs.Message.{text_value}
use Rattle.ak_input.specs.Got.{Got, got}
use Rattle.ak_input.specs.Reading.{text_from, text_got, message_from}
use Rattle.ak_input.specs.Said.{WritesText, WritesWithin}
use Rattle.ak_input.specs.SaidLaws.{WrittenTextsAreRead, WrittenValuesAreRead, WrittenFieldsAreRead, WrittenMessagesAreRead}
use Rattle.ak_input.specs.Written.{quoted_text, text_in}
use Rattle.ak_input.proofs.FieldsSaid.{words_again, words_take}
use Rattle.ak_input.proofs.Fine.{message_fine}
use Rattle.ak_input.proofs.LevelsSaid.{message_said}
use Rattle.ak_input.proofs.PlainSaid.{long_again, text_said}
use Rattle.ak_input.proofs.ValuesAgain.{text_again}
use Rattle.ak_input.proofs.ValuesSaid.{Agree, value_again, value_takes, values_again, values_take}

-- ---- texts
abbrev text_of_read : Option Got → Option (Limited (List ℕ))
text_of_read o = o >>= λ (g : Got). text_in g.value

text_written : (word : List ℕ) (text : Limited (List ℕ)) → WritesText word text → quoted_text word ≡ Some text
text_written word (Within bytes) is = ap text_of_read (subst (λ (w : List ℕ). text_from w ≡ Some (got (text_value bytes))) (sym is.0) (text_again bytes is.1))
text_written word Over is = ap text_of_read (long_again word is)

itself : (text : Limited (List ℕ)) → text_in (text_got text).value ≡ Some text
itself Over = refl
itself (Within bytes) = refl

text_read : (word : List ℕ) (text : Limited (List ℕ)) → quoted_text word ≡ Some text → WritesText word text
text_read word text e =
    let g = bind_some (text_from word) (λ (g : Got). text_in g.value) text e in
    let s = text_said word g.0 g.1 in
    let same : Some s.0 ≡ Some text = sym (itself s.0) ∙ ap (λ (x : Got). text_in x.value) s.2 ∙ g.2 in
    subst (λ (t : Limited (List ℕ)). WritesText word t) (some_is s.0 text same) s.1

pub texts_are_written : WrittenTextsAreRead
texts_are_written word text = (λ is. text_written word text is, λ e. text_read word text e)

-- ---- values, fields and messages
within_16 : Agree (message_from 16) (WritesWithin 16)
within_16 = message_said 16 (omega arith)

within_15 : Agree (message_from 15) (WritesWithin 15)
within_15 = message_said 15 (omega arith)

pub values_are_written : WrittenValuesAreRead
values_are_written text g = (λ is. value_again (message_from 16) (WritesWithin 16) within_16 text g is, λ e. value_takes (message_from 16) (WritesWithin 16) within_16 text g e)

pub fields_are_written : WrittenFieldsAreRead
fields_are_written text read = (λ is. values_again (message_from 15) (WritesWithin 15) within_15 text read is, λ e. values_take (message_from 15) (WritesWithin 15) within_15 text read e)

pub messages_are_written : WrittenMessagesAreRead
messages_are_written words m = (
  λ is. words_again (message_from 15) (WritesWithin 15) within_15 15 (omega arith) (message_fine 15) words m is,
  λ e. words_take (message_from 15) (WritesWithin 15) within_15 15 (omega arith) (message_fine 15) words m e,
)
