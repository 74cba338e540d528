-- The message of an action: what its words say is what is read of them.
use Rattle.std.proofs.Common.{◌≡◌, ◌↔◌, ℕ, List, [], ◌∷◌, ◌++◌, Option, Some, None, refl, sym, ap, ◌∙◌}
use Rattle.std.specs.List.{AllZip}
use Rattle.std.proofs.lemmas.Option.{same_Some}
use Rattle.ak_base.specs.declared.code.Code.{Code}
use Rattle.ak_input.specs.Reading.{field_split}
use Rattle.ak_base.specs.Option.{◌>>=◌}
use Rattle.ak_base.specs.declared.limited.Limited.{Limited}
use Rattle.ak_base.proofs.Surface.{bind_some}
use Rattle.ak_input.specs.Written.{code_of}
use Rattle.ak_action.specs.declared.template.Template.{Template}
use Rattle.ak_describe.specs.declared.parts.PropertyParts.{PropertyParts}
use Rattle.ak_describe.specs.Actions.{Built, nothing_built, field_behind, fields_behind, short_template, template_form}
use Rattle.ak_describe.specs.Grammar.{FieldText, SaysField, SaysMessage}
use Rattle.ak_describe.specs.Made.{limited_then}
use Rattle.ak_describe.specs.Words.{code_at}
use Rattle.ak_describe.proofs.grammar.Building.{AreNamed, built, added_again, added_takes, names_new, new_names, kept_template}
use Rattle.ak_describe.proofs.grammar.Codes.{code_is_read}
use Rattle.ak_describe.proofs.grammar.Fields.{texts_read, texts_again, texts_take, added_all, fields-behind_are}

-- ---- the parts of a message
abbrev code_and : List (List ℕ) → Code → Code × List (List ℕ)
code_and texts code = (code, texts)

abbrev template_read : List PropertyParts → List (List ℕ) → Option Code → Option (Limited Template)
template_read properties texts code =
    (code >>= λ c. Some (code_and texts c)) >>= λ what. fields_behind properties nothing_built what.1 >>= λ b. Some (limited_then (short_template what.0) b.fields)

template-is : (properties : List PropertyParts) (word : List ℕ) (texts : List (List ℕ)) → template_form properties (word ∷ texts) ≡ template_read properties texts (code_of word)
unfolding template_form code_at
template-is properties word texts = refl

template-none : (properties : List PropertyParts) → template_form properties [] ≡ None
unfolding template_form code_at
template-none properties = refl

pub template_again : (properties : List PropertyParts) (word : List ℕ) (texts : List (List ℕ)) (what : Code) (b : Built) → code_of word ≡ Some what → fields_behind properties nothing_built texts ≡ Some b
    → template_form properties (word ∷ texts) ≡ Some (limited_then (short_template what) b.fields)
template_again properties word texts what b code fields =
    template-is properties word texts ∙ ap (template_read properties texts) code ∙ ap (λ (o : Option Built). o >>= λ c. Some (limited_then (short_template what) c.fields)) fields

pub record TemplateParts (properties : List PropertyParts) (word : List ℕ) (texts : List (List ℕ)) (t : Limited Template) : Type 0 where
  pub what : Code
  pub fields : Built
  pub what_is : code_of word ≡ Some what
  pub fields_are : fields_behind properties nothing_built texts ≡ Some fields
  pub kept : limited_then (short_template what) fields.fields ≡ t

pub template_takes : (properties : List PropertyParts) (word : List ℕ) (texts : List (List ℕ)) (t : Limited Template) → template_form properties (word ∷ texts) ≡ Some t → TemplateParts properties word texts t
template_takes properties word texts t e = by_code (code_of word) refl (sym (template-is properties word texts) ∙ e) where
  by_code : (code : Option Code) → code_of word ≡ code → template_read properties texts code ≡ Some t → TemplateParts properties word texts t
  by_code None is e = absurd cc
  by_code (Some what) is e =
      let s = bind_some (fields_behind properties nothing_built texts) (λ b. Some (limited_then (short_template what) b.fields)) t e in
      record { what = what; fields = s.0; what_is = is; fields_are = s.1; kept = same_Some (limited_then (short_template what) s.0.fields) t s.2 }

-- ---- the law
fields_named : (properties : List PropertyParts) (texts : List (List ℕ)) (fields : List FieldText) → AllZip (SaysField properties) texts fields → AreNamed fields
fields_named properties [] [] h = tt
fields_named properties [] (f ∷ fields) h = absurd h
fields_named properties (text ∷ texts) [] h = absurd h
fields_named properties (text ∷ texts) (f ∷ fields) h = (h.0.name_is, fields_named properties texts fields h.1)

message_again : (properties : List PropertyParts) (words : List (List ℕ)) (t : Limited Template) → SaysMessage properties words t → template_form properties words ≡ Some t
message_again properties words t h =
    let read = texts_again properties h.texts h.fields h.fields_are in
    let added = added_again h.fields [] (fields_named properties h.texts h.fields h.fields_are) (names_new h.fields h.names_differ) in
    let fields : fields_behind properties nothing_built h.texts ≡ Some (built h.fields) =
    fields-behind_are properties h.texts nothing_built ∙ ap (λ (o : Option (List FieldText)). o >>= λ fs. added_all nothing_built fs) read ∙ added in
    ap (template_form properties) h.all ∙ template_again properties h.word h.texts h.what (built h.fields) ((code_is_read h.word h.what).0 h.what_is) fields
    ∙ ap (λ (x : Limited Template). Some x) (kept_template h.what h.fields ∙ sym h.kept)

fields_take : (properties : List PropertyParts) (texts : List (List ℕ)) (b : Built) → fields_behind properties nothing_built texts ≡ Some b
    → (fields : List FieldText) × (texts_read properties texts ≡ Some fields) × (added_all nothing_built fields ≡ Some b)
fields_take properties texts b e = bind_some (texts_read properties texts) (λ fs. added_all nothing_built fs) b (sym (fields-behind_are properties texts nothing_built) ∙ e)

message_takes : (properties : List PropertyParts) (words : List (List ℕ)) (t : Limited Template) → template_form properties words ≡ Some t → SaysMessage properties words t
message_takes properties [] t e = absurd (let none = template-none properties in cc)
message_takes properties (word ∷ texts) t e =
    let parts = template_takes properties word texts t e in
    let f = fields_take properties texts parts.fields parts.fields_are in
    let zip = texts_take properties texts f.0 f.1 in
    let new = added_takes f.0 [] parts.fields (fields_named properties texts f.0 zip) f.2 in
    record {
      word = word;
      texts = texts;
      all = refl;
      what = parts.what;
      what_is = (code_is_read word parts.what).1 parts.what_is;
      fields = f.0;
      fields_are = zip;
      names_differ = new_names f.0 new.0;
      kept = sym parts.kept ∙ ap (λ (b : Built). limited_then (short_template parts.what) b.fields) new.1 ∙ kept_template parts.what f.0;
    }

pub message_is_read : (properties : List PropertyParts) (words : List (List ℕ)) (t : Limited Template) → SaysMessage properties words t ↔ (template_form properties words ≡ Some t)
message_is_read properties words t = (message_again properties words t, message_takes properties words t)

-- ---- a word that is no code and no field stands in no message
no_field : (properties : List PropertyParts) (word : List ℕ) (behind front : List (List ℕ)) (b c : Built) → field_split word ≡ None → fields_behind properties b (front ++ word ∷ behind) ≡ Some c → ⊥
unfolding fields_behind field_behind
no_field properties word behind [] b c none e =
    let s = bind_some (field_behind properties b word) (λ more. fields_behind properties more behind) c e in
    let is : field_behind properties b word ≡ None = rw none refl in
    cc (s.1, is)
no_field properties word behind (v ∷ front) b c none e =
    let s = bind_some (field_behind properties b v) (λ more. fields_behind properties more (front ++ word ∷ behind)) c e in
    no_field properties word behind front s.0 c none s.2

pub not_in_message : (properties : List PropertyParts) (word : List ℕ) (front behind : List (List ℕ)) (t : Limited Template) → code_of word ≡ None → field_split word ≡ None
    → template_form properties (front ++ word ∷ behind) ≡ Some t → ⊥
not_in_message properties word [] behind t no_code none e =
    let parts = template_takes properties word behind t e in
    let is = parts.what_is in
    cc (is, no_code)
not_in_message properties word (v ∷ front) behind t no_code none e =
    let parts = template_takes properties v (front ++ word ∷ behind) t e in
    no_field properties word behind front nothing_built parts.fields none parts.fields_are
