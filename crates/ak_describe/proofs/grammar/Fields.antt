-- The words of fields: what a word says of a field is what is read of it, and the fields that are built of words are those that the
-- words say, where their names differ.
use Rattle.std.proofs.Common.{◌≡◌, ◌↔◌, ◌⊎◌, inl, inr, ℕ, zero, suc, ◌<◌, Bool, true, false, cond, eqb, List, [], ◌∷◌, length, get_or, Option, Some, None, refl, sym, ap, subst, ◌∙◌, arith}
use Rattle.std.specs.Prelude.{option_map}
use Rattle.std.specs.List.{AllZip}
use Rattle.std.specs.Str.{bytes_eq}
use Rattle.std.proofs.lemmas.Bool.{eqb-true, eqb-false, ne_eqb}
use Rattle.std.proofs.lemmas.Option.{same_Some}
use Rattle.std.proofs.lemmas.Slice.Eq.{bytes_eq-Decides}
use Rattle.ak_base.specs.Word.{is_word}
use Rattle.ak_base.specs.Option.{◌>>=◌}
use Rattle.ak_base.specs.declared.limited.Limited.{Limited}
use Rattle.ak_base.specs.declared.limited.Limited.TheVariants.{Within, Over}
use Rattle.ak_input.specs.Reading.{field_split}
use Rattle.ak_input.proofs.Surface.{split_again, split_takes}
use Rattle.ak_base.proofs.Surface.{bind_some, cond_some}
use Rattle.ak_action.specs.declared.template.Given.{Given}
use Rattle.ak_action.specs.declared.template.Given.TheVariants as gets
use Rattle.ak_action.specs.Values.{ValuesData}
use Rattle.ak_describe.specs.declared.parts.PropertyParts.{PropertyParts}
use Rattle.ak_describe.specs.Actions.{property_name, copied_from, copied_or, given_values, given_from, set_given, Built, field_added, field_behind, fields_behind}
use Rattle.ak_describe.specs.Grammar.{IsProperty, IsCopied, AreValues, IsCopiedTo, HasNoSign, IsGiven, IsOne, FieldText, SaysField}
use Rattle.ak_describe.specs.Made.{values_from, one_from}
use Rattle.ak_describe.specs.Parts.{property_named}
use Rattle.ak_describe.specs.Words.{name_of}
use Rattle.ak_describe.proofs.grammar.Values.{values_are_read, one_is_read}

-- ---- names of properties
property_found : (properties : List PropertyParts) (name : List ℕ) (i : ℕ) (p : PropertyParts) → i < length properties → get_or properties i p ≡ p → p.row.name ≡ name
    → (q : PropertyParts) × (property_named properties name ≡ Some q)
property_found [] name i p within at is = absurd (omega arith)
property_found (q ∷ properties) name i p within at is =
    by_name (bytes_eq q.row.name name) refl i within at (λ j low there. property_found properties name j p low there is) where
      by_name : (same : Bool) → bytes_eq q.row.name name ≡ same → (i : ℕ) → i < length (q ∷ properties) → get_or (q ∷ properties) i p ≡ p
          → ((j : ℕ) → j < length properties → get_or properties j p ≡ p → (r : PropertyParts) × (property_named properties name ≡ Some r))
          → (r : PropertyParts) × (cond same (Some q) (property_named properties name) ≡ Some r)
      by_name true e i within at later = (q, refl)
      by_name false e zero within at later =
          absurd (let yes : bytes_eq q.row.name name ≡ true = (bytes_eq-Decides q.row.name name).1 (ap (λ (r : PropertyParts). r.row.name) at ∙ is) in cc)
      by_name false e (suc i) within at later = later i (omega arith) at

property_stands : (properties : List PropertyParts) (name : List ℕ) (p : PropertyParts) → property_named properties name ≡ Some p → IsProperty properties name
property_stands [] name p e = absurd cc
property_stands (q ∷ properties) name p e = by_name (bytes_eq q.row.name name) refl e (property_stands properties name p) where
  by_name : (same : Bool) → bytes_eq q.row.name name ≡ same → cond same (Some q) (property_named properties name) ≡ Some p → (property_named properties name ≡ Some p → IsProperty properties name) → IsProperty (q ∷ properties) name
  by_name true is e later = (0, q, omega arith, refl, (bytes_eq-Decides q.row.name name).0 is)
  by_name false is e later = let h = later e in (suc h.0, h.1, omega (arith, h.2), h.3, h.4)

pub property_again : (properties : List PropertyParts) (name : List ℕ) → IsProperty properties name → is_word name ≡ true → property_name properties name ≡ Some name
property_again properties name h word =
    let found = property_found properties name h.0 h.1 h.2 h.3 h.4 in
    rw (found.1, word) refl

pub property_takes : (properties : List PropertyParts) (word name : List ℕ) → property_name properties word ≡ Some name → IsProperty properties word × (is_word word ≡ true) × (word ≡ name)
property_takes properties word name e =
    let s = bind_some (property_named properties word) (λ _. name_of word) name e in
    let t = cond_some (is_word word) word name s.2 in
    (property_stands properties word s.0 s.1, t.0, t.1)

-- ---- what is copied
abbrev copied : Given → Option (Option Given)
copied g = Some (Some g)

copied_again : (properties : List PropertyParts) (text : List ℕ) (g : Given) → IsCopied properties text g → copied_from properties text ≡ Some (Some g)
copied_again properties text (gets.Field name) h =
    let there : copied_from properties (36 ∷ name) ≡ copied (gets.Field name) = rw h.1 refl in
    ap (copied_from properties) h.0 ∙ there
copied_again properties text (gets.Property name) h =
    let is = property_again properties name h.1 h.2 in
    let there : copied_from properties (64 ∷ name) ≡ copied (gets.Property name) = rw is refl in
    ap (copied_from properties) h.0 ∙ there
copied_again properties text (gets.Values v) h = absurd h

abbrev by_sign : List PropertyParts → Bool → Bool → List ℕ → Option (Option Given)
by_sign properties dollar at name =
    cond dollar (name_of name >>= λ n. Some (Some (gets.Field n))) (cond at (property_name properties name >>= λ n. Some (Some (gets.Property n))) (Some None))

copied_takes : (properties : List PropertyParts) (text : List ℕ) (g : Given) → copied_from properties text ≡ Some (Some g) → IsCopied properties text g
copied_takes properties [] g e = absurd cc
copied_takes properties (sign ∷ name) g e = by_tests (eqb sign 36) (eqb sign 64) refl refl e where
  by_tests : (dollar at : Bool) → eqb sign 36 ≡ dollar → eqb sign 64 ≡ at → by_sign properties dollar at name ≡ Some (Some g) → IsCopied properties (sign ∷ name) g
  by_tests true at is _ e =
      let s = bind_some (name_of name) (λ n. Some (Some (gets.Field n))) (Some g) e in
      let t = cond_some (is_word name) name s.0 s.1 in
      let same = same_Some (gets.Field s.0) g (same_Some (Some (gets.Field s.0)) (Some g) s.2) in
      subst (IsCopied properties (sign ∷ name)) same (ap (λ (b : ℕ). b ∷ name) (eqb-true sign 36 is) ∙ ap (λ (n : List ℕ). 36 ∷ n) t.1, subst (λ (n : List ℕ). is_word n ≡ true) t.1 t.0)
  by_tests false true _ is e =
      let s = bind_some (property_name properties name) (λ n. Some (Some (gets.Property n))) (Some g) e in
      let t = property_takes properties name s.0 s.1 in
      let same = same_Some (gets.Property s.0) g (same_Some (Some (gets.Property s.0)) (Some g) s.2) in
      subst (IsCopied properties (sign ∷ name)) same
      (ap (λ (b : ℕ). b ∷ name) (eqb-true sign 64 is) ∙ ap (λ (n : List ℕ). 64 ∷ n) t.2, subst (IsProperty properties) t.2 t.0, subst (λ (n : List ℕ). is_word n ≡ true) t.2 t.1)
  by_tests false false _ _ e = absurd cc

unsigned_again : (properties : List PropertyParts) (text : List ℕ) → HasNoSign text → copied_from properties text ≡ Some None
unsigned_again properties [] h = refl
unsigned_again properties (sign ∷ name) h = rw (ne_eqb sign 36 h.0, ne_eqb sign 64 h.1) refl

unsigned_takes : (properties : List PropertyParts) (text : List ℕ) → copied_from properties text ≡ Some None → HasNoSign text
unsigned_takes properties [] e = tt
unsigned_takes properties (sign ∷ name) e = by_tests (eqb sign 36) (eqb sign 64) refl refl e where
  by_tests : (dollar at : Bool) → eqb sign 36 ≡ dollar → eqb sign 64 ≡ at → by_sign properties dollar at name ≡ Some None → HasNoSign (sign ∷ name)
  by_tests true at is _ e = absurd (let s = bind_some (name_of name) (λ n. Some (Some (gets.Field n))) None e in cc (s.2))
  by_tests false true _ is e = absurd (let s = bind_some (property_name properties name) (λ n. Some (Some (gets.Property n))) None e in cc (s.2))
  by_tests false false no_dollar no_at e = (eqb-false sign 36 no_dollar, eqb-false sign 64 no_at)

-- ---- what a field gets: copied, or else by values, whatever they are
abbrev Reads : Option (Limited ValuesData) → (Limited Given → Type 0) → Type 0
Reads values Says = (g : Limited Given) → Says g ↔ (option_map given_values values ≡ Some g)

given_again : (properties : List PropertyParts) (text : List ℕ) (values : Option (Limited ValuesData)) (Says : Limited Given → Type 0) → Reads values Says → (g : Limited Given)
    → IsCopiedTo properties text g ⊎ HasNoSign text × Says g → (copied_from properties text >>= λ c. copied_or c values) ≡ Some g
given_again properties text values Says reads Over (inl h) = absurd h
given_again properties text values Says reads (Within g) (inl h) = ap (λ (o : Option (Option Given)). o >>= λ c. copied_or c values) (copied_again properties text g h)
given_again properties text values Says reads g (inr h) =
    ap (λ (o : Option (Option Given)). o >>= λ c. copied_or c values) (unsigned_again properties text h.0) ∙ (reads g).0 h.1

given_takes : (properties : List PropertyParts) (text : List ℕ) (values : Option (Limited ValuesData)) (Says : Limited Given → Type 0) → Reads values Says → (g : Limited Given)
    → (copied_from properties text >>= λ c. copied_or c values) ≡ Some g → IsCopiedTo properties text g ⊎ HasNoSign text × Says g
given_takes properties text values Says reads g e =
    let s = bind_some (copied_from properties text) (λ c. copied_or c values) g e in
    by_copied s.0 s.1 s.2 where
      by_copied : (c : Option Given) → copied_from properties text ≡ Some c → copied_or c values ≡ Some g → IsCopiedTo properties text g ⊎ HasNoSign text × Says g
      by_copied (Some x) is e =
          let same = same_Some (Within x) g e in
          subst (λ (o : Limited Given). IsCopiedTo properties text o ⊎ HasNoSign text × Says o) same (inl (copied_takes properties text x is))
      by_copied None is e = inr (unsigned_takes properties text is, (reads g).1 e)

given-is : (properties : List PropertyParts) (text : List ℕ) → given_from properties text ≡ (copied_from properties text >>= λ c. copied_or c (values_from text))
unfolding given_from
given-is properties text = refl

set-is : (properties : List PropertyParts) (text : List ℕ) → set_given properties text ≡ (copied_from properties text >>= λ c. copied_or c (one_from text))
unfolding set_given
set-is properties text = refl

pub given_is_read : (properties : List PropertyParts) (text : List ℕ) (g : Limited Given) → IsGiven properties text g ↔ (given_from properties text ≡ Some g)
given_is_read properties text g = (
  λ h. given-is properties text ∙ given_again properties text (values_from text) (AreValues text) (values_are_read text) g h,
  λ e. given_takes properties text (values_from text) (AreValues text) (values_are_read text) g (sym (given-is properties text) ∙ e),
)

pub set_given_is_read
    : (properties : List PropertyParts) (text : List ℕ) (g : Limited Given) → (IsCopiedTo properties text g ⊎ HasNoSign text × IsOne text g) ↔ (set_given properties text ≡ Some g)
set_given_is_read properties text g = (
  λ h. set-is properties text ∙ given_again properties text (one_from text) (IsOne text) (one_is_read text) g h,
  λ e. given_takes properties text (one_from text) (IsOne text) (one_is_read text) g (sym (set-is properties text) ∙ e),
)

-- ---- the word of a field
abbrev pub field_made : List ℕ → Limited Given → FieldText
field_made name g = record { name = name; content = g }

abbrev pub field_text : List PropertyParts → List ℕ → Option FieldText
field_text properties word = field_split word >>= λ field. given_from properties field.1 >>= λ g. Some (field_made field.0 g)

pub field_is_read : (properties : List PropertyParts) (word : List ℕ) (f : FieldText) → SaysField properties word f ↔ (field_text properties word ≡ Some f)
field_is_read properties word f = (again, takes) where
  again : SaysField properties word f → field_text properties word ≡ Some f
  again h =
      let split : field_split word ≡ Some (f.name, h.text) = ap field_split h.all ∙ split_again f.name h.text h.name_is in
      let given = (given_is_read properties h.text f.content).0 h.given_is in
      rw (split, given) refl

  takes : field_text properties word ≡ Some f → SaysField properties word f
  takes e =
      let s = bind_some (field_split word) (λ field. given_from properties field.1 >>= λ g. Some (field_made field.0 g)) f e in
      let r = bind_some (given_from properties s.0.1) (λ g. Some (field_made s.0.0 g)) f s.2 in
      let split = split_takes word s.0 s.1 in
      let same = same_Some (field_made s.0.0 r.0) f r.2 in
      subst (SaysField properties word) same (record { text = s.0.1; all = split.0; name_is = split.1; given_is = (given_is_read properties s.0.1 r.0).1 r.1 })

-- ---- the words of all fields
abbrev pub texts_read : List PropertyParts → List (List ℕ) → Option (List FieldText)
texts_read properties [] = Some []
texts_read properties (word ∷ words) = field_text properties word >>= λ f. texts_read properties words >>= λ fs. Some (f ∷ fs)

pub texts_again : (properties : List PropertyParts) (words : List (List ℕ)) (fields : List FieldText) → AllZip (SaysField properties) words fields → texts_read properties words ≡ Some fields
texts_again properties [] [] h = refl
texts_again properties [] (f ∷ fields) h = absurd h
texts_again properties (word ∷ words) [] h = absurd h
texts_again properties (word ∷ words) (f ∷ fields) h =
    let first = (field_is_read properties word f).0 h.0 in
    let rest = texts_again properties words fields h.1 in
    ap (λ (o : Option FieldText). o >>= λ g. texts_read properties words >>= λ fs. Some (g ∷ fs)) first ∙ ap (λ (o : Option (List FieldText)). o >>= λ fs. Some (f ∷ fs)) rest

pub texts_take : (properties : List PropertyParts) (words : List (List ℕ)) (fields : List FieldText) → texts_read properties words ≡ Some fields → AllZip (SaysField properties) words fields
texts_take properties [] fields e = subst (AllZip (SaysField properties) []) (same_Some {A = List FieldText} [] fields e) tt
texts_take properties (word ∷ words) fields e =
    let s = bind_some (field_text properties word) (λ g. texts_read properties words >>= λ fs. Some (g ∷ fs)) fields e in
    let r = bind_some (texts_read properties words) (λ fs. Some (s.0 ∷ fs)) fields s.2 in
    let same = same_Some (s.0 ∷ r.0) fields r.2 in
    subst (AllZip (SaysField properties) (word ∷ words)) same ((field_is_read properties word s.0).1 s.1, texts_take properties words r.0 r.1)

-- the fields one after another
abbrev pub added_all : Built → List FieldText → Option Built
added_all b [] = Some b
added_all b (f ∷ fs) = field_added b f.name f.content >>= λ more. added_all more fs

field-behind_is : (properties : List PropertyParts) (b : Built) (word : List ℕ) → field_behind properties b word ≡ (field_text properties word >>= λ f. field_added b f.name f.content)
unfolding field_behind
field-behind_is properties b word = by_split (field_split word) where
  by_given : (name : List ℕ) (o : Option (Limited Given)) → (o >>= λ g. field_added b name g) ≡ ((o >>= λ g. Some (field_made name g)) >>= λ f. field_added b f.name f.content)
  by_given name None = refl
  by_given name (Some g) = refl

  by_split : (o : Option (List ℕ × List ℕ))
      → (o >>= λ field. given_from properties field.1 >>= λ g. field_added b field.0 g)
      ≡ ((o >>= λ field. given_from properties field.1 >>= λ g. Some (field_made field.0 g)) >>= λ f. field_added b f.name f.content)
  by_split None = refl
  by_split (Some field) = by_given field.0 (given_from properties field.1)

pub fields-behind_are : (properties : List PropertyParts) (words : List (List ℕ)) (b : Built) → fields_behind properties b words ≡ (texts_read properties words >>= λ fs. added_all b fs)
unfolding fields_behind
fields-behind_are properties [] b = refl
fields-behind_are properties (word ∷ words) b =
    ap (λ (o : Option Built). o >>= λ more. fields_behind properties more words) (field-behind_is properties b word)
    ∙ by_text (field_text properties word) (texts_read properties words) (λ more. fields_behind properties more words) (λ more. fields-behind_are properties words more) where
      by_added : (o : Option Built) (fs : List FieldText) (next : Built → Option Built) → ((more : Built) → next more ≡ added_all more fs) → (o >>= next) ≡ (o >>= λ more. added_all more fs)
      by_added None fs next h = refl
      by_added (Some more) fs next h = h more

      none_added : (o : Option Built) (next : Built → Option Built) → ((more : Built) → next more ≡ None) → (o >>= next) ≡ None
      none_added None next h = refl
      none_added (Some more) next h = h more

      by_rest : (f : FieldText) (rest : Option (List FieldText)) (next : Built → Option Built) → ((more : Built) → next more ≡ (rest >>= λ fs. added_all more fs))
          → (field_added b f.name f.content >>= next) ≡ ((rest >>= λ fs. Some (f ∷ fs)) >>= λ fs. added_all b fs)
      by_rest f None next h = none_added (field_added b f.name f.content) next h
      by_rest f (Some fs) next h = by_added (field_added b f.name f.content) fs next h

      by_text : (text : Option FieldText) (rest : Option (List FieldText)) (next : Built → Option Built) → ((more : Built) → next more ≡ (rest >>= λ fs. added_all more fs))
          → ((text >>= λ f. field_added b f.name f.content) >>= next) ≡ ((text >>= λ f. rest >>= λ fs. Some (f ∷ fs)) >>= λ fs. added_all b fs)
      by_text None rest next h = refl
      by_text (Some f) rest next h = by_rest f rest next h
