-- Whatever the words so far are, some words end the line.
use Rattle.std.proofs.Common.{◌≡◌, ℕ, Bool, true, List, [], ◌∷◌, ◌++◌, Option, Some, None, pos, refl, ap, ◌∙◌}
use Rattle.std.specs.Prelude.{codes}
use Rattle.std.specs.Fmt.{digits}
use Rattle.std.specs.Str.{is_utf8, chars}
use Rattle.ak_base.specs.Option.{where_true, ◌>>=◌}
use Rattle.ak_base.specs.declared.app_word.AppWord.{AppWord}
use Rattle.ak_base.specs.declared.app_word.AppWord.TheVariants as app_words
use Rattle.ak_base.specs.declared.limited.Limited.TheVariants.{Within}
use Rattle.ak_message.specs.declared.address.Target.TheVariants as target
use Rattle.ak_message.specs.declared.kind.Kind.{Kind}
use Rattle.ak_message.specs.declared.kind.Kind.TheVariants as k
use Rattle.ak_message.specs.declared.specifier.At.TheVariants as at
use Rattle.ak_message.specs.Message.{ValueData, bool_value, int8_value, int16_value, int32_value, int64_value, uint8_value, uint16_value, uint32_value, uint64_value, text_value, messenger_value, raw_value, value_of_message}
use Rattle.ak_input.specs.Payload.{int_within, address_from, raw_from, quoted_from}
use Rattle.ak_input.specs.Pieces.{pieces_from}
use Rattle.ak_input.specs.Reading.{Got, got, fits, text_from, raw_value_from, small_from, short_from, code_from, with_value, words_of, fields_behind, message_of, message_from, read_value}
use Rattle.ak_input.specs.Written.{app_word_of}
use Rattle.ak_input.proofs.Surface.{split_again}
use Rattle.ak_hey.specs.declared.reading.Place.{Place}
use Rattle.ak_hey.specs.declared.reading.Place.TheVariants as place
use Rattle.ak_hey.specs.Draft.{DraftData, kind_named, with_kind, with_specifier, with_got, short_message}
use Rattle.ak_hey.specs.Hey.{State, start, hey, at_app, body, with_data, with_field}
use Rattle.ak_hey.proofs.grammar.Walks.{Said, said, placed, goes_with}

-- ---- a value of each kind
value_text : Option Kind → List ℕ
value_text None = codes "true"
value_text (Some k.Bool) = codes "true"
value_text (Some k.Int8) = codes "BYTE:1"
value_text (Some k.Int16) = codes "SHRT:1"
value_text (Some k.Int32) = codes "LONG:1"
value_text (Some k.Int64) = codes "LLNG:1"
value_text (Some k.UInt8) = codes "UBYT:1"
value_text (Some k.UInt16) = codes "USHT:1"
value_text (Some k.UInt32) = codes "ULNG:1"
value_text (Some k.UInt64) = codes "ULLG:1"
value_text (Some k.Text) = codes "\"\""
value_text (Some k.Message) = codes "MSGG:{'AAAA'}"
value_text (Some k.Messenger) = codes "MSNG:0.p"
value_text (Some k.Raw) = codes "RAWT:"

abbrev IsOfKind : Option Kind → ValueData → Type 0
IsOfKind o v = (read_value (value_text o) ≡ Some (got v)) × (fits o (got v).kind ≡ true)

value_reads : (o : Option Kind) → (v : ValueData) × IsOfKind o v
unfolding value_text int_within digits is_utf8 chars address_from raw_from quoted_from pieces_from text_from raw_value_from small_from short_from code_from words_of fields_behind message_of message_from
value_reads None = (bool_value true, (refl, refl))
value_reads (Some k.Bool) = (bool_value true, (refl, refl))
value_reads (Some k.Int8) = (int8_value (pos 1), (refl, refl))
value_reads (Some k.Int16) = (int16_value (pos 1), (refl, refl))
value_reads (Some k.Int32) = (int32_value (pos 1), (refl, refl))
value_reads (Some k.Int64) = (int64_value (pos 1), (refl, refl))
value_reads (Some k.UInt8) = (uint8_value 1, (refl, refl))
value_reads (Some k.UInt16) = (uint16_value 1, (refl, refl))
value_reads (Some k.UInt32) = (uint32_value 1, (refl, refl))
value_reads (Some k.UInt64) = (uint64_value 1, (refl, refl))
value_reads (Some k.Text) = (text_value [], (refl, refl))
value_reads (Some k.Message) = (value_of_message (record { what = 0x41414141; fields = []; popped = 0 }), (refl, refl))
value_reads (Some k.Messenger) = (messenger_value (record { looper = 0; target = target.Preferred }), (refl, refl))
value_reads (Some k.Raw) = (raw_value [], (refl, refl))

-- a value of that kind fits
abbrev drafted : DraftData → List ℕ → Got → Option (List (List ℕ × Kind)) → Option DraftData
drafted d name g o = o >>= λ kinds. Some (record { kinds = kinds; message = with_value d.message name g.value })

fitting : (d : DraftData) (name : List ℕ) (g : Got) → fits (kind_named d.kinds name) g.kind ≡ true → (e : DraftData) × (with_got d name g ≡ Some e)
fitting d name g fit = (
  record { kinds = with_kind d.kinds name g.kind; message = with_value d.message name g.value },
  ap (λ (t : Bool). drafted d name g (where_true t (with_kind d.kinds name g.kind))) fit,
)

data_fits : (d : DraftData) → (e : DraftData) × (with_data d (value_text (kind_named d.kinds (codes "data"))) ≡ Some e)
unfolding with_data
data_fits d =
    let v = value_reads (kind_named d.kinds (codes "data")) in
    let e = fitting d (codes "data") (got v.0) v.1.1 in
    (e.0, ap (λ (o : Option Got). o >>= λ g. with_got d (codes "data") g) v.1.0 ∙ e.1)

abbrev field_text : DraftData → List ℕ
field_text d = codes "a" ++ 61 ∷ value_text (kind_named d.kinds (codes "a"))

field_fits : (d : DraftData) → (e : DraftData) × (with_field d (field_text d) ≡ Some e)
unfolding with_field
field_fits d =
    let v = value_reads (kind_named d.kinds (codes "a")) in
    let e = fitting d (codes "a") (got v.0) v.1.1 in (
      e.0,
      ap (λ (o : Option (List ℕ × List ℕ)). o >>= λ field. read_value field.1 >>= λ g. with_got d field.0 g) (split_again (codes "a") (value_text (kind_named d.kinds (codes "a"))) refl)
          ∙ ap (λ (o : Option Got). o >>= λ g. with_got d (codes "a") g) v.1.0
          ∙ e.1,
    )

-- ---- words that end the line
abbrev Completes : State → Type 0
Completes s = (more : List (List ℕ)) × (r : Said) × (said s more ≡ Some r)

body_completes : (app : AppWord) (p : Place) (d : DraftData) → Completes (body app p d)
body_completes app place.Verb d = ([], (app, short_message d.message), refl)
body_completes app place.Elements d = ([], (app, short_message d.message), refl)
body_completes app place.Data d = ([], (app, short_message d.message), refl)
body_completes app place.Field d = ([], (app, short_message d.message), refl)
body_completes app (place.Property name) d = ([], (app, short_message (with_specifier d name (Within at.Direct)).message), refl)
body_completes app place.Of d = (codes "a" ∷ [], (app, short_message (with_specifier d (codes "a") (Within at.Direct)).message), refl)
body_completes app place.To d = let e = data_fits d in (value_text (kind_named d.kinds (codes "data")) ∷ [], (app, short_message e.0.message), ap (λ (o : Option DraftData). goes_with app [] (o >>= placed place.Data)) e.1)
body_completes app place.With d = let e = field_fits d in (field_text d ∷ [], (app, short_message e.0.message), ap (λ (o : Option DraftData). goes_with app [] (o >>= placed place.Field)) e.1)

verb_completes : (app : AppWord) → Completes (at_app app)
verb_completes app = (codes "get" ∷ [], _, refl)

app_reads : app_word_of (codes "a") ≡ Some (app_words.Name (codes "a"))
unfolding app_word_of int_within digits
app_reads = refl

app_completes : Completes hey
app_completes = (codes "a" ∷ codes "get" ∷ [], _, ap (λ (o : Option AppWord). (o >>= λ a. Some (at_app a)) >>= λ t. said t (codes "get" ∷ [])) app_reads)

pub completes : (s : State) → Completes s
completes start = (codes "hey" ∷ app_completes.0, app_completes.1, app_completes.2)
completes hey = app_completes
completes (at_app app) = verb_completes app
completes (body app p d) = body_completes app p d
