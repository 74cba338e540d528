-- What a line says is read of it.
use Rattle.std.proofs.Common.{◌≡◌, ◌⊎◌, inl, inr, ℕ, Bool, true, List, [], ◌∷◌, ◌++◌, Option, Some, None, refl, sym, ap, subst, ◌∙◌, append_assoc}
use Rattle.std.specs.Prelude.{codes}
use Rattle.ak_base.specs.Option.{where_true, ◌>>=◌}
use Rattle.ak_base.specs.declared.app_word.AppWord.{AppWord}
use Rattle.ak_base.specs.declared.code.Code.{Code}
use Rattle.ak_base.specs.declared.limited.Limited.{Limited}
use Rattle.ak_base.specs.declared.limited.Limited.TheVariants.{Within}
use Rattle.ak_message.specs.declared.specifier.At.{At}
use Rattle.ak_message.specs.declared.specifier.At.TheVariants as at
use Rattle.ak_message.specs.Message.{MessageData}
use Rattle.ak_input.specs.Reading.{Got, read_value, field_split}
use Rattle.ak_hey.specs.declared.reading.Place.{Place}
use Rattle.ak_hey.specs.declared.reading.Place.TheVariants as place
use Rattle.ak_hey.specs.Draft.{DraftData, new_draft, with_specifier, with_got, short_message}
use Rattle.ak_hey.specs.Grammar.{SpecText, AreElements, IsSpec, AreFurther, AreSpecs, IsData, FieldText, IsField, AreFields, with_fields, with_data_field, made_of, IsHey}
use Rattle.ak_hey.specs.Hey.{start, at_app, body, key_of, property, elements, with_data, with_field, step, ended}
use Rattle.ak_hey.specs.Words.{is_property}
use Rattle.ak_input.proofs.Surface.{app_word_again, split_again, values_are_written}
use Rattle.ak_hey.proofs.grammar.Elements.{elements_are_written}
use Rattle.ak_hey.proofs.grammar.Keys.{IsKey, of_key, to_key, with_key, key_is, property_no_key, elements_no_key}
use Rattle.ak_hey.proofs.grammar.Walks.{Said, said, placed, goes_with}

abbrev pub message_said : AppWord → Option DraftData → Option Said
message_said app o = o >>= λ e. Some (app, short_message e.message)

-- ---- fields
field_step : (d : DraftData) (word : List ℕ) (f : FieldText) → IsField f word → with_field d word ≡ with_got d f.name f.value
unfolding with_field
field_step d word f is =
    ap (λ (w : List ℕ). field_split w >>= λ field. read_value field.1 >>= λ g. with_got d field.0 g) is.all
    ∙ ap (λ (o : Option (List ℕ × List ℕ)). o >>= λ field. read_value field.1 >>= λ g. with_got d field.0 g) (split_again f.name is.text is.name_is)
    ∙ ap (λ (o : Option Got). o >>= λ g. with_got d f.name g) ((values_are_written is.text f.value).0 is.value_is)

fields_read : (app : AppWord) (p : Place) (d : DraftData) (key : List ℕ) (fields : List FieldText) (words : List (List ℕ)) → ended p d ≡ Some d → step p d key ≡ Some (place.With, d) → AreFields key fields words → said (body app p d) words ≡ message_said app (with_fields d fields)
fields_read app p d key [] words ends leads are = ap (λ (ws : List (List ℕ)). said (body app p d) ws) are ∙ ap (message_said app) ends
fields_read app p d key (f ∷ fields) words ends leads are =
    ap (λ (ws : List (List ℕ)). said (body app p d) ws) are.2
    ∙ ap (goes_with app (are.0 ∷ are.1)) leads
    ∙ ap (λ (o : Option DraftData). goes_with app are.1 (o >>= placed place.Field)) (field_step d are.0 f are.3)
    ∙ by_got (with_got d f.name f.value) (λ e. fields_read app place.Field e (codes "and") fields are.1 refl refl are.4) where
      by_got : (o : Option DraftData) → ((e : DraftData) → said (body app place.Field e) are.1 ≡ message_said app (with_fields e fields))
          → goes_with app are.1 (o >>= placed place.Field) ≡ message_said app (o >>= λ e. with_fields e fields)
      by_got None later = refl
      by_got (Some e) later = later e

-- ---- data, and then fields
data_step : (d : DraftData) (word : List ℕ) (g : Got) → read_value word ≡ Some g → with_data d word ≡ with_got d (codes "data") g
unfolding with_data
data_step d word g e = ap (λ (o : Option Got). o >>= λ h. with_got d (codes "data") h) e

data_read : (app : AppWord) (p : Place) (d : DraftData) (x : Option Got) (fields : List FieldText) (front words : List (List ℕ)) → ended p d ≡ Some d → step p d (codes "to") ≡ Some (place.To, d) → step p d (codes "with") ≡ Some (place.With, d)
    → IsData x front → AreFields (codes "with") fields words → said (body app p d) (front ++ words) ≡ message_said app (with_data_field d x >>= λ e. with_fields e fields)
data_read app p d None fields front words ends to with is are =
    ap (λ (ws : List (List ℕ)). said (body app p d) (ws ++ words)) is ∙ fields_read app p d (codes "with") fields words ends with are
data_read app p d (Some g) fields front words ends to with is are =
    ap (λ (ws : List (List ℕ)). said (body app p d) (ws ++ words)) is.1
    ∙ ap (goes_with app (is.0 ∷ words)) to
    ∙ ap (λ (o : Option DraftData). goes_with app words (o >>= placed place.Data)) (data_step d is.0 g ((values_are_written is.0 g).0 is.2))
    ∙ by_got (with_got d (codes "data") g) (λ e. fields_read app place.Data e (codes "with") fields words refl refl are) where
      by_got : (o : Option DraftData) → ((e : DraftData) → said (body app place.Data e) words ≡ message_said app (with_fields e fields))
          → goes_with app words (o >>= placed place.Data) ≡ message_said app (o >>= λ e. with_fields e fields)
      by_got None later = refl
      by_got (Some e) later = later e

-- ---- specifiers
-- no words, or one that leads on first
abbrev IsLed : List (List ℕ) → Type 0
IsLed words = (words ≡ []) ⊎ ((word : List ℕ) × (p : Place) × (more : List (List ℕ)) × (words ≡ word ∷ more) × (key_of word ≡ Some p))

led_fields : (fields : List FieldText) (words : List (List ℕ)) → AreFields (codes "with") fields words → IsLed words
led_fields [] words are = inl are
led_fields (f ∷ fields) words are = inr (codes "with", place.With, are.0 ∷ are.1, are.2, refl)

led_data : (x : Option Got) (fields : List FieldText) (front words : List (List ℕ)) → IsData x front → AreFields (codes "with") fields words → IsLed (front ++ words)
led_data None fields front words is are = subst (λ (ws : List (List ℕ)). IsLed (ws ++ words)) (sym is) (led_fields fields words are)
led_data (Some g) fields front words is are = inr (codes "to", place.To, is.0 ∷ words, ap (λ (ws : List (List ℕ)). ws ++ words) is.1, refl)

led_specs : (specs : List SpecText) (front words : List (List ℕ)) → AreFurther specs front → IsLed words → IsLed (front ++ words)
led_specs [] front words are led = subst (λ (ws : List (List ℕ)). IsLed (ws ++ words)) (sym are) led
led_specs (s ∷ specs) front words are led = inr (codes "of", place.Of, (are.0 ++ are.1) ++ words, ap (λ (ws : List (List ℕ)). ws ++ words) are.2, refl)

-- a property is meant itself where its elements do not follow
direct_read : (app : AppWord) (name : List ℕ) (d : DraftData) (words : List (List ℕ)) → IsLed words → said (body app (place.Property name) d) words ≡ said (body app place.Elements (with_specifier d name (Within at.Direct))) words
direct_read app name d words (inl none) = subst (λ (ws : List (List ℕ)). said (body app (place.Property name) d) ws ≡ said (body app place.Elements (with_specifier d name (Within at.Direct))) ws) (sym none) refl
direct_read app name d words (inr led) =
    subst (λ (ws : List (List ℕ)). said (body app (place.Property name) d) ws ≡ said (body app place.Elements (with_specifier d name (Within at.Direct))) ws) (sym led.3) (by_key led.0 led.1 (key_is led.0 led.1 led.4)) where
      by_key : (w : List ℕ) (p : Place) → IsKey w p → said (body app (place.Property name) d) (w ∷ led.2) ≡ said (body app place.Elements (with_specifier d name (Within at.Direct))) (w ∷ led.2)
      by_key _ _ of_key = refl
      by_key _ _ to_key = refl
      by_key _ _ with_key = refl

property_step : (word : List ℕ) → is_property word ≡ true → property word ≡ Some (place.Property word)
property_step word e = ap (λ (t : Bool). where_true t (place.Property word)) e

elements_step : (app : AppWord) (name : List ℕ) (d : DraftData) (word : List ℕ) (a : Limited At) (words : List (List ℕ)) → elements word ≡ Some a → said (body app (place.Property name) d) (word ∷ words) ≡ said (body app place.Elements (with_specifier d name a)) words
elements_step app name d word a words e = rw (elements_no_key word a e, e) refl

-- behind `of`
spec_read : (app : AppWord) (d : DraftData) (s : SpecText) (spec words : List (List ℕ)) → IsSpec s spec → IsLed words → said (body app place.Of d) (spec ++ words) ≡ said (body app place.Elements (with_specifier d s.property s.at)) words
spec_read app d s spec words is led =
    ap (λ (ws : List (List ℕ)). said (body app place.Of d) (ws ++ words)) is.all
    ∙ ap (λ (o : Option Place). goes_with app (is.part ++ words) (o >>= λ q. placed q d)) (property_step s.property is.property_is)
    ∙ by_part is.elements_are where
      by_part : ((is.part ≡ []) × (s.at ≡ Within at.Direct)) ⊎ ((word : List ℕ) × (is.part ≡ word ∷ []) × AreElements word s.at)
          → said (body app (place.Property s.property) d) (is.part ++ words) ≡ said (body app place.Elements (with_specifier d s.property s.at)) words
      by_part (inl none) =
          ap (λ (ws : List (List ℕ)). said (body app (place.Property s.property) d) (ws ++ words)) none.0
          ∙ direct_read app s.property d words led
          ∙ ap (λ (a : Limited At). said (body app place.Elements (with_specifier d s.property a)) words) (sym none.1)
      by_part (inr some) =
          ap (λ (ws : List (List ℕ)). said (body app (place.Property s.property) d) (ws ++ words)) some.1
          ∙ elements_step app s.property d some.0 s.at words ((elements_are_written some.0 s.at).0 some.2)

further_read : (app : AppWord) (d : DraftData) (specs : List SpecText) (x : Option Got) (fields : List FieldText) (front data_part words : List (List ℕ)) → AreFurther specs front → IsData x data_part → AreFields (codes "with") fields words
    → said (body app place.Elements d) (front ++ (data_part ++ words)) ≡ message_said app (made_of d specs x fields)
further_read app d [] x fields front data_part words are is fields_are =
    ap (λ (ws : List (List ℕ)). said (body app place.Elements d) (ws ++ (data_part ++ words))) are ∙ data_read app place.Elements d x fields data_part words refl refl refl is fields_are
further_read app d (s ∷ specs) x fields front data_part words are is fields_are =
    ap (λ (ws : List (List ℕ)). said (body app place.Elements d) (ws ++ (data_part ++ words))) are.2
    ∙ ap (λ (ws : List (List ℕ)). said (body app place.Of d) ws) (append_assoc are.0 are.1 (data_part ++ words))
    ∙ spec_read app d s are.0 (are.1 ++ (data_part ++ words)) are.3 (led_specs specs are.1 (data_part ++ words) are.4 (led_data x fields data_part words is fields_are))
    ∙ further_read app (with_specifier d s.property s.at) specs x fields are.1 data_part words are.4 is fields_are

-- ---- behind the verb
-- with the first `of` left out
left_out : (app : AppWord) (d : DraftData) (word : List ℕ) (more : List (List ℕ)) → is_property word ≡ true → said (body app place.Verb d) (word ∷ more) ≡ said (body app place.Of d) (word ∷ more)
left_out app d word more e = rw (property_no_key word e) refl

specs_read : (app : AppWord) (d : DraftData) (specs : List SpecText) (x : Option Got) (fields : List FieldText) (front data_part words : List (List ℕ)) → AreSpecs specs front → IsData x data_part → AreFields (codes "with") fields words
    → said (body app place.Verb d) (front ++ (data_part ++ words)) ≡ message_said app (made_of d specs x fields)
specs_read app d [] x fields front data_part words (inl are) is fields_are =
    ap (λ (ws : List (List ℕ)). said (body app place.Verb d) (ws ++ (data_part ++ words))) are ∙ data_read app place.Verb d x fields data_part words refl refl refl is fields_are
specs_read app d [] x fields front data_part words (inr are) is fields_are = absurd cc
specs_read app d (s ∷ specs) x fields front data_part words (inl are) is fields_are =
    ap (λ (ws : List (List ℕ)). said (body app place.Verb d) (ws ++ (data_part ++ words))) are.2
    ∙ sym (ap (λ (ws : List (List ℕ)). said (body app place.Elements d) (ws ++ (data_part ++ words))) are.2)
    ∙ further_read app d (s ∷ specs) x fields front data_part words are is fields_are
specs_read app d (s ∷ specs) x fields front data_part words (inr are) is fields_are =
    let front_is : front ≡ s.property ∷ (are.3.part ++ are.1) = tail_of front (are.0 ++ are.1) are.2 ∙ ap (λ (ws : List (List ℕ)). ws ++ are.1) are.3.all in
    ap (λ (ws : List (List ℕ)). said (body app place.Verb d) (ws ++ (data_part ++ words))) front_is
    ∙ left_out app d s.property ((are.3.part ++ are.1) ++ (data_part ++ words)) are.3.property_is
    ∙ sym (ap (λ (ws : List (List ℕ)). said (body app place.Elements d) (codes "of" ∷ (ws ++ (data_part ++ words)))) front_is)
    ∙ further_read app d (s ∷ specs) x fields (codes "of" ∷ front) data_part words are is fields_are where
      tail_of : (front rest : List (List ℕ)) → codes "of" ∷ front ≡ codes "of" ∷ rest → front ≡ rest
      tail_of front rest e = cc

pub hey_again : (words : List (List ℕ)) (app : AppWord) (message : Limited MessageData) → IsHey words app message → said start words ≡ Some (app, message)
hey_again words app message is =
    ap (λ (ws : List (List ℕ)). said start ws) is.all
    ∙ ap (λ (o : Option AppWord). (o >>= λ a. Some (at_app a)) >>= λ t. said t (is.verb ∷ (is.spec_part ++ (is.data_part ++ is.field_part)))) (app_word_again is.app_word app is.app_is)
    ∙ ap (λ (o : Option Code). (o >>= λ what. Some (body app place.Verb (new_draft what))) >>= λ t. said t (is.spec_part ++ (is.data_part ++ is.field_part))) is.verb_is
    ∙ specs_read app (new_draft is.what) is.specs is.data_value is.fields is.spec_part is.data_part is.field_part is.specs_are is.data_is is.fields_are
    ∙ ap (message_said app) is.draft_is
    ∙ ap (λ (m : Limited MessageData). said_pair app m) (sym is.message_is) where
      said_pair : AppWord → Limited MessageData → Option Said
      said_pair a m = Some (a, m)
