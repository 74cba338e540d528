-- What is read of words is what they say.
use Rattle.std.proofs.Common.{◌≡◌, ◌⊎◌, inl, inr, ℕ, Bool, true, false, List, [], ◌∷◌, ◌++◌, Option, Some, None, refl, sym, ap, subst, ◌∙◌, append_assoc}
use Rattle.std.specs.Prelude.{codes}
use Rattle.std.specs.Str.{bytes_eq}
use Rattle.ak_base.proofs.Surface.{bind_some, cond_some, some_is}
use Rattle.ak_base.specs.Option.{where_true, ◌>>=◌}
use Rattle.ak_base.specs.declared.app_word.AppWord.{AppWord}
use Rattle.ak_base.specs.declared.code.Code.{Code}
use Rattle.ak_base.specs.declared.limited.Limited.{Limited}
use Rattle.ak_base.specs.declared.limited.Limited.TheVariants.{Within}
use Rattle.ak_message.specs.declared.specifier.At.{At}
use Rattle.ak_message.specs.declared.specifier.At.TheVariants as at
use Rattle.ak_input.specs.Reading.{Got, read_value, field_split}
use Rattle.ak_input.specs.Written.{app_word_of}
use Rattle.ak_hey.specs.declared.reading.Place.{Place}
use Rattle.ak_hey.specs.declared.reading.Place.TheVariants as place
use Rattle.ak_hey.specs.Draft.{DraftData, new_draft, with_specifier, with_got, short_message}
use Rattle.ak_hey.specs.Grammar.{SpecText, AreElements, AreFurther, AreSpecs, IsData, FieldText, IsField, AreFields, with_fields, made_of, IsHey}
use Rattle.ak_hey.specs.Hey.{State, start, hey, at_app, body, key_of, property, place_or, behind_verb, leading, elements, key_or, elements_or_key, with_data, with_field, step, ended}
use Rattle.ak_hey.specs.Words.{verb_of, is_property}
use Rattle.ak_input.proofs.Surface.{app_word_takes, split_takes, values_are_written}
use Rattle.ak_hey.proofs.grammar.Elements.{elements_are_written}
use Rattle.ak_hey.proofs.grammar.Keys.{IsKey, of_key, to_key, with_key, key_is, eq_of}
use Rattle.ak_hey.proofs.grammar.Walks.{Said, said}

-- ---- what the words behind a place say
-- behind a whole specifier
pub record Parts (specs : List SpecText) (x : Option Got) (fields : List FieldText) (words : List (List ℕ)) : Type 0 where
  pub spec_part : List (List ℕ)
  pub data_part : List (List ℕ)
  pub field_part : List (List ℕ)
  pub all : words ≡ spec_part ++ (data_part ++ field_part)
  pub specs_are : AreFurther specs spec_part
  pub data_is : IsData x data_part
  pub fields_are : AreFields (codes "with") fields field_part

-- behind a property
pub record Pending (name : List ℕ) (specs : List SpecText) (x : Option Got) (fields : List FieldText) (words : List (List ℕ)) : Type 0 where
  pub elements_at : Limited At
  pub part : List (List ℕ)
  pub rest : List (List ℕ)
  pub further : List SpecText
  pub specs_is : specs ≡ (record { property = name; at = elements_at }) ∷ further
  pub all : words ≡ part ++ rest
  pub elements_are : ((part ≡ []) × (elements_at ≡ Within at.Direct)) ⊎ ((word : List ℕ) × (part ≡ word ∷ []) × AreElements word elements_at)
  pub rest_is : Parts further x fields rest

-- behind the verb
pub record FirstParts (specs : List SpecText) (x : Option Got) (fields : List FieldText) (words : List (List ℕ)) : Type 0 where
  pub spec_part : List (List ℕ)
  pub data_part : List (List ℕ)
  pub field_part : List (List ℕ)
  pub all : words ≡ spec_part ++ (data_part ++ field_part)
  pub specs_are : AreSpecs specs spec_part
  pub data_is : IsData x data_part
  pub fields_are : AreFields (codes "with") fields field_part

abbrev pub Says : Place → List SpecText → Option Got → List FieldText → List (List ℕ) → Type 0
Says place.Verb specs x fields words = FirstParts specs x fields words
Says place.Elements specs x fields words = Parts specs x fields words
Says place.Of specs x fields words = Parts specs x fields (codes "of" ∷ words)
Says (place.Property name) specs x fields words = Pending name specs x fields words
Says place.To specs x fields words = Parts specs x fields (codes "to" ∷ words)
Says place.Data specs x fields words = (specs ≡ []) × (x ≡ None) × AreFields (codes "with") fields words
Says place.With specs x fields words = (specs ≡ []) × (x ≡ None) × AreFields (codes "with") fields (codes "with" ∷ words)
Says place.Field specs x fields words = (specs ≡ []) × (x ≡ None) × AreFields (codes "and") fields words

pub record Tail (p : Place) (d : DraftData) (app : AppWord) (words : List (List ℕ)) (r : Said) : Type 0 where
  pub specs : List SpecText
  pub data_value : Option Got
  pub fields : List FieldText
  pub says : Says p specs data_value fields words
  pub draft : DraftData
  pub draft_is : made_of d specs data_value fields ≡ Some draft
  pub said_is : r ≡ (app, short_message draft.message)

-- ---- one step each
no_parts : Parts [] None [] []
no_parts = record { spec_part = []; data_part = []; field_part = []; all = refl; specs_are = refl; data_is = refl; fields_are = refl }

-- with the fields alone
fields_parts : (fields : List FieldText) (words : List (List ℕ)) → AreFields (codes "with") fields words → Parts [] None fields words
fields_parts fields words are = record { spec_part = []; data_part = []; field_part = words; all = refl; specs_are = refl; data_is = refl; fields_are = are }

-- a word that leads on
keyed : (w : List ℕ) (p : Place) (d : DraftData) (app : AppWord) (words : List (List ℕ)) (r : Said) → IsKey w p → Tail p d app words r → Tail place.Elements d app (w ∷ words) r
keyed _ _ d app words r of_key t = record { specs = t.specs; data_value = t.data_value; fields = t.fields; says = t.says; draft = t.draft; draft_is = t.draft_is; said_is = t.said_is }
keyed _ _ d app words r to_key t = record { specs = t.specs; data_value = t.data_value; fields = t.fields; says = t.says; draft = t.draft; draft_is = t.draft_is; said_is = t.said_is }
keyed _ _ d app words r with_key t =
    record {
      specs = t.specs;
      data_value = t.data_value;
      fields = t.fields;
      says = subst (λ (s : List SpecText). Parts s t.data_value t.fields (codes "with" ∷ words)) (sym t.says.0) (subst (λ (x : Option Got). Parts [] x t.fields (codes "with" ∷ words)) (sym t.says.1) (fields_parts t.fields (codes "with" ∷ words) t.says.2));
      draft = t.draft;
      draft_is = t.draft_is;
      said_is = t.said_is;
    }

-- `of` may be left out before the first specifier
first_parts : (specs : List SpecText) (x : Option Got) (fields : List FieldText) (words : List (List ℕ)) → Parts specs x fields words → FirstParts specs x fields words
first_parts specs x fields words p =
    record { spec_part = p.spec_part; data_part = p.data_part; field_part = p.field_part; all = p.all; specs_are = inl p.specs_are; data_is = p.data_is; fields_are = p.fields_are }

tail_first : (d : DraftData) (app : AppWord) (words : List (List ℕ)) (r : Said) → Tail place.Elements d app words r → Tail place.Verb d app words r
tail_first d app words r t =
    record { specs = t.specs; data_value = t.data_value; fields = t.fields; says = first_parts t.specs t.data_value t.fields words t.says; draft = t.draft; draft_is = t.draft_is; said_is = t.said_is }

-- the specifier of a property and its elements, behind `of`
spec_of : (name : List ℕ) (specs : List SpecText) (x : Option Got) (fields : List FieldText) (words : List (List ℕ)) → is_property name ≡ true → (t : Pending name specs x fields words)
    → AreFurther specs (codes "of" ∷ ((name ∷ t.part) ++ t.rest_is.spec_part))
spec_of name specs x fields words is t =
    subst (λ (ss : List SpecText). AreFurther ss (codes "of" ∷ ((name ∷ t.part) ++ t.rest_is.spec_part))) (sym t.specs_is)
    (name ∷ t.part, t.rest_is.spec_part, refl, record { part = t.part; all = refl; property_is = is; elements_are = t.elements_are }, t.rest_is.specs_are)

pending_all : (name : List ℕ) (specs : List SpecText) (x : Option Got) (fields : List FieldText) (words : List (List ℕ)) (t : Pending name specs x fields words)
    → name ∷ words ≡ ((name ∷ t.part) ++ t.rest_is.spec_part) ++ (t.rest_is.data_part ++ t.rest_is.field_part)
pending_all name specs x fields words t =
    ap (λ (ws : List (List ℕ)). name ∷ ws)
    (t.all ∙ ap (λ (ws : List (List ℕ)). t.part ++ ws) t.rest_is.all ∙ sym (append_assoc t.part t.rest_is.spec_part (t.rest_is.data_part ++ t.rest_is.field_part)))

behind_of : (name : List ℕ) (specs : List SpecText) (x : Option Got) (fields : List FieldText) (words : List (List ℕ)) → is_property name ≡ true → Pending name specs x fields words → Parts specs x fields (codes "of" ∷ name ∷ words)
behind_of name specs x fields words is t =
    record {
      spec_part = codes "of" ∷ ((name ∷ t.part) ++ t.rest_is.spec_part);
      data_part = t.rest_is.data_part;
      field_part = t.rest_is.field_part;
      all = ap (λ (ws : List (List ℕ)). codes "of" ∷ ws) (pending_all name specs x fields words t);
      specs_are = spec_of name specs x fields words is t;
      data_is = t.rest_is.data_is;
      fields_are = t.rest_is.fields_are;
    }

without_of : (name : List ℕ) (specs : List SpecText) (x : Option Got) (fields : List FieldText) (words : List (List ℕ)) → is_property name ≡ true → Pending name specs x fields words → FirstParts specs x fields (name ∷ words)
without_of name specs x fields words is t =
    record {
      spec_part = (name ∷ t.part) ++ t.rest_is.spec_part;
      data_part = t.rest_is.data_part;
      field_part = t.rest_is.field_part;
      all = pending_all name specs x fields words t;
      specs_are = inr (spec_of name specs x fields words is t);
      data_is = t.rest_is.data_is;
      fields_are = t.rest_is.fields_are;
    }

-- ---- the words may end
abbrev IsEnd : Place → DraftData → AppWord → Said → Type 0
IsEnd p d app r = (ended p d >>= λ e. Some (app, short_message e.message)) ≡ Some r

plain_end : (p : Place) (d : DraftData) (app : AppWord) (r : Said) → Says p [] None [] [] → (Some (app, short_message d.message)) ≡ Some r → Tail p d app [] r
plain_end p d app r says e = record { specs = []; data_value = None; fields = []; says = says; draft = d; draft_is = refl; said_is = sym (some_is (app, short_message d.message) r e) }

ends_here : (p : Place) (d : DraftData) (app : AppWord) (r : Said) → IsEnd p d app r → Tail p d app [] r
ends_here place.Verb d app r e = plain_end place.Verb d app r (first_parts [] None [] [] no_parts) e
ends_here place.Elements d app r e = plain_end place.Elements d app r no_parts e
ends_here place.Data d app r e = plain_end place.Data d app r (refl, refl, refl) e
ends_here place.Field d app r e = plain_end place.Field d app r (refl, refl, refl) e
ends_here (place.Property name) d app r e =
    record {
      specs = (record { property = name; at = Within at.Direct }) ∷ [];
      data_value = None;
      fields = [];
      says = record { elements_at = Within at.Direct; part = []; rest = []; further = []; specs_is = refl; all = refl; elements_are = inl (refl, refl); rest_is = no_parts };
      draft = with_specifier d name (Within at.Direct);
      draft_is = refl;
      said_is = sym (some_is (app, short_message (with_specifier d name (Within at.Direct)).message) r e);
    }
ends_here place.Of d app r e = absurd cc
ends_here place.To d app r e = absurd cc
ends_here place.With d app r e = absurd cc

-- ---- one word more
abbrev IsGood : Place → Type 0
IsGood (place.Property name) = is_property name ≡ true
IsGood place.Verb = Unit {0}
IsGood place.Elements = Unit {0}
IsGood place.Of = Unit {0}
IsGood place.To = Unit {0}
IsGood place.Data = Unit {0}
IsGood place.With = Unit {0}
IsGood place.Field = Unit {0}

key_good : (w : List ℕ) (p : Place) → IsKey w p → IsGood p
key_good _ _ of_key = tt
key_good _ _ to_key = tt
key_good _ _ with_key = tt

-- what comes behind is taken
abbrev Later : AppWord → Said → List (List ℕ) → Type 0
Later app r words = (p : Place) (d : DraftData) → IsGood p → said (body app p d) words ≡ Some r → Tail p d app words r

abbrev goes : AppWord → List (List ℕ) → Place × DraftData → Option Said
goes app words s = said (body app s.0 s.1) words

-- the place and the draft behind a word
stepped : (app : AppWord) (p : Place) (d : DraftData) (w : List ℕ) (words : List (List ℕ)) (r : Said) → said (body app p d) (w ∷ words) ≡ Some r → (s : Place × DraftData) × (step p d w ≡ Some s) × (goes app words s ≡ Some r)
stepped app p d w words r e =
    let b = bind_some (step p d w >>= λ s. Some (body app s.0 s.1)) (λ t. said t words) r e in
    let s = bind_some (step p d w) (λ s. Some (body app s.0 s.1)) b.0 b.1 in
    (s.0, s.1, ap (λ (t : State). said t words) (some_is (body app s.0.0 s.0.1) b.0 s.2) ∙ b.2)

-- a place, with the draft as it was
placed : (o : Option Place) (d : DraftData) (s : Place × DraftData) → (o >>= λ q. Some (q, d)) ≡ Some s → (o ≡ Some s.0) × (s.1 ≡ d)
placed None d s e = absurd cc
placed (Some q) d s e = (cc, cc)

by_key : (app : AppWord) (d : DraftData) (w : List ℕ) (words : List (List ℕ)) (r : Said) (p : Place) → key_of w ≡ Some p → said (body app p d) words ≡ Some r → Later app r words → Tail place.Elements d app (w ∷ words) r
by_key app d w words r p is e later = keyed w p d app words r (key_is w p is) (later p d (key_good w p (key_is w p is)) e)

-- a property behind `of`, or behind the verb
property_takes : (w : List ℕ) (p : Place) → property w ≡ Some p → (is_property w ≡ true) × (place.Property w ≡ p)
property_takes w p e = cond_some (is_property w) (place.Property w) p e

property_tail : (app : AppWord) (d : DraftData) (w : List ℕ) (words : List (List ℕ)) (r : Said) (p : Place) → property w ≡ Some p → said (body app p d) words ≡ Some r → Later app r words → (is_property w ≡ true) × Tail (place.Property w) d app words r
property_tail app d w words r p is e later =
    let t = property_takes w p is in
    (t.0, later (place.Property w) d t.0 (ap (λ (q : Place). said (body app q d) words) t.1 ∙ e))

verb_word : (app : AppWord) (d : DraftData) (w : List ℕ) (words : List (List ℕ)) (r : Said) (p : Place) → behind_verb w ≡ Some p → said (body app p d) words ≡ Some r → Later app r words → Tail place.Verb d app (w ∷ words) r
verb_word app d w words r p is e later = by_first (key_of w) refl is where
  by_first : (o : Option Place) → key_of w ≡ o → place_or o (property w) ≡ Some p → Tail place.Verb d app (w ∷ words) r
  by_first (Some q) key is = tail_first d app (w ∷ words) r (by_key app d w words r p (key ∙ is) e later)
  by_first None key is =
      let t = property_tail app d w words r p is e later in
      let u = t.1 in
      record { specs = u.specs; data_value = u.data_value; fields = u.fields; says = without_of w u.specs u.data_value u.fields words t.0 u.says; draft = u.draft; draft_is = u.draft_is; said_is = u.said_is }

of_word : (app : AppWord) (d : DraftData) (w : List ℕ) (words : List (List ℕ)) (r : Said) (p : Place) → property w ≡ Some p → said (body app p d) words ≡ Some r → Later app r words → Tail place.Of d app (w ∷ words) r
of_word app d w words r p is e later =
    let t = property_tail app d w words r p is e later in
    let u = t.1 in
    record { specs = u.specs; data_value = u.data_value; fields = u.fields; says = behind_of w u.specs u.data_value u.fields words t.0 u.says; draft = u.draft; draft_is = u.draft_is; said_is = u.said_is }

-- the elements of a property
pending_tail : (app : AppWord) (name : List ℕ) (d : DraftData) (a : Limited At) (part rest words : List (List ℕ)) (r : Said) → words ≡ part ++ rest
    → ((part ≡ []) × (a ≡ Within at.Direct)) ⊎ ((word : List ℕ) × (part ≡ word ∷ []) × AreElements word a) → Tail place.Elements (with_specifier d name a) app rest r → Tail (place.Property name) d app words r
pending_tail app name d a part rest words r all are t =
    record {
      specs = (record { property = name; at = a }) ∷ t.specs;
      data_value = t.data_value;
      fields = t.fields;
      says = record { elements_at = a; part = part; rest = rest; further = t.specs; specs_is = refl; all = all; elements_are = are; rest_is = t.says };
      draft = t.draft;
      draft_is = t.draft_is;
      said_is = t.said_is;
    }

property_word : (app : AppWord) (name : List ℕ) (d : DraftData) (w : List ℕ) (words : List (List ℕ)) (r : Said) (s : Place × Limited At) → elements_or_key w ≡ Some s → said (body app s.0 (with_specifier d name s.1)) words ≡ Some r → Later app r words
    → Tail (place.Property name) d app (w ∷ words) r
property_word app name d w words r s is e later = by_first (key_of w) refl is where
  by_first : (o : Option Place) → key_of w ≡ o → key_or o (elements w) ≡ Some s → Tail (place.Property name) d app (w ∷ words) r
  by_first (Some q) key is =
      let same = some_is (q, Within at.Direct) s is in
      let e = ap (λ (t : Place × Limited At). said (body app t.0 (with_specifier d name t.1)) words) same ∙ e in
      pending_tail app name d (Within at.Direct) [] (w ∷ words) (w ∷ words) r refl (inl (refl, refl)) (by_key app (with_specifier d name (Within at.Direct)) w words r q key e later)
  by_first None key is =
      let b = bind_some (elements w) (λ a. Some (place.Elements, a)) s is in
      let same = some_is (place.Elements, b.0) s b.2 in
      let e = ap (λ (t : Place × Limited At). said (body app t.0 (with_specifier d name t.1)) words) same ∙ e in
      pending_tail app name d b.0 (w ∷ []) words (w ∷ words) r refl (inr (w, refl, (elements_are_written w b.0).1 b.1)) (later place.Elements (with_specifier d name b.0) tt e)

-- ---- data and fields
-- where only fields are left
fields_alone : (e : DraftData) (specs : List SpecText) (x : Option Got) (fields : List FieldText) (draft : DraftData) → specs ≡ [] → x ≡ None → made_of e specs x fields ≡ Some draft → with_fields e fields ≡ Some draft
fields_alone e specs x fields draft none nothing is = sym (ap (λ (s : List SpecText). made_of e s x fields) none ∙ ap (λ (y : Option Got). made_of e [] y fields) nothing) ∙ is

to_word : (app : AppWord) (d e : DraftData) (w : List ℕ) (words : List (List ℕ)) (r : Said) → with_data d w ≡ Some e → Tail place.Data e app words r → Tail place.To d app (w ∷ words) r
unfolding with_data
to_word app d e w words r is t =
    let b = bind_some (read_value w) (λ g. with_got d (codes "data") g) e is in
    let made : made_of d [] (Some b.0) t.fields ≡ Some t.draft =
    ap (λ (o : Option DraftData). o >>= λ f. with_fields f t.fields) b.2
    ∙ fields_alone e t.specs t.data_value t.fields t.draft t.says.0 t.says.1 t.draft_is in
    record {
      specs = [];
      data_value = Some b.0;
      fields = t.fields;
      says = record { spec_part = []; data_part = codes "to" ∷ w ∷ []; field_part = words; all = refl; specs_are = refl; data_is = (w, refl, (values_are_written w b.0).1 b.1); fields_are = t.says.2 };
      draft = t.draft;
      draft_is = made;
      said_is = t.said_is;
    }

data_word : (app : AppWord) (d : DraftData) (w : List ℕ) (words : List (List ℕ)) (r : Said) → w ≡ codes "with" → Tail place.With d app words r → Tail place.Data d app (w ∷ words) r
data_word app d w words r is t =
    record {
      specs = t.specs;
      data_value = t.data_value;
      fields = t.fields;
      says = (t.says.0, t.says.1, subst (λ (v : List ℕ). AreFields (codes "with") t.fields (v ∷ words)) (sym is) t.says.2);
      draft = t.draft;
      draft_is = t.draft_is;
      said_is = t.said_is;
    }

-- what stands behind `with` may stand behind `and`
rekeyed : (fields : List FieldText) (words : List (List ℕ)) → AreFields (codes "with") fields (codes "with" ∷ words) → AreFields (codes "and") fields (codes "and" ∷ words)
rekeyed [] words are = absurd cc
rekeyed (f ∷ fields) words are = (are.0, are.1, tail_of words (are.0 ∷ are.1) are.2, are.3, are.4) where
  tail_of : (words rest : List (List ℕ)) → codes "with" ∷ words ≡ codes "with" ∷ rest → codes "and" ∷ words ≡ codes "and" ∷ rest
  tail_of words rest e = cc

field_word : (app : AppWord) (d : DraftData) (w : List ℕ) (words : List (List ℕ)) (r : Said) → w ≡ codes "and" → Tail place.With d app words r → Tail place.Field d app (w ∷ words) r
field_word app d w words r is t =
    record {
      specs = t.specs;
      data_value = t.data_value;
      fields = t.fields;
      says = (t.says.0, t.says.1, subst (λ (v : List ℕ). AreFields (codes "and") t.fields (v ∷ words)) (sym is) (rekeyed t.fields words t.says.2));
      draft = t.draft;
      draft_is = t.draft_is;
      said_is = t.said_is;
    }

-- one field more
abbrev FieldOf : DraftData → List ℕ → DraftData → Type 0
FieldOf d w e = (f : FieldText) × IsField f w × (with_got d f.name f.value ≡ Some e)

field_of : (d e : DraftData) (w : List ℕ) → with_field d w ≡ Some e → FieldOf d w e
unfolding with_field
field_of d e w is =
    let s = bind_some (field_split w) (λ field. read_value field.1 >>= λ g. with_got d field.0 g) e is in
    let g = bind_some (read_value s.0.1) (λ g. with_got d s.0.0 g) e s.2 in
    let parts = split_takes w s.0 s.1 in
    (record { name = s.0.0; value = g.0 }, record { text = s.0.1; all = parts.0; name_is = parts.1; value_is = (values_are_written s.0.1 g.0).1 g.1 }, g.2)

with_word : (app : AppWord) (d e : DraftData) (w : List ℕ) (words : List (List ℕ)) (r : Said) → with_field d w ≡ Some e → Tail place.Field e app words r → Tail place.With d app (w ∷ words) r
with_word app d e w words r is t =
    let f = field_of d e w is in
    let left = fields_alone e t.specs t.data_value t.fields t.draft t.says.0 t.says.1 t.draft_is in
    record {
      specs = [];
      data_value = None;
      fields = f.0 ∷ t.fields;
      says = (refl, refl, (w, words, refl, f.1, t.says.2));
      draft = t.draft;
      draft_is = ap (λ (o : Option DraftData). o >>= λ x. with_fields x t.fields) f.2 ∙ left;
      said_is = t.said_is;
    }

-- ---- word by word
leading_takes : (w wanted : List ℕ) (p : Place) → leading w wanted ≡ Some p → (w ≡ wanted) × (place.With ≡ p)
leading_takes w wanted p e =
    let t = cond_some (bytes_eq w wanted) place.With p e in
    (eq_of w wanted t.0, t.1)

-- the draft that a value makes, and its place
with_place : (o : Option DraftData) (q : Place) (s : Place × DraftData) → (o >>= λ e. Some (q, e)) ≡ Some s → (o ≡ Some s.1) × (s.0 ≡ q)
with_place None q s e = absurd cc
with_place (Some e) q s is = (cc, cc)

one_word : (app : AppWord) (p : Place) (d : DraftData) (w : List ℕ) (words : List (List ℕ)) (r : Said) → (s : Place × DraftData) → step p d w ≡ Some s → goes app words s ≡ Some r → Later app r words → Tail p d app (w ∷ words) r
one_word app place.Verb d w words r s is e later =
    let p = placed (behind_verb w) d s is in
    verb_word app d w words r s.0 p.0 (ap (λ (f : DraftData). said (body app s.0 f) words) (sym p.1) ∙ e) later
one_word app place.Of d w words r s is e later =
    let p = placed (property w) d s is in
    of_word app d w words r s.0 p.0 (ap (λ (f : DraftData). said (body app s.0 f) words) (sym p.1) ∙ e) later
one_word app (place.Property name) d w words r s is e later =
    let b = bind_some (elements_or_key w) (λ p. Some (p.0, with_specifier d name p.1)) s is in
    property_word app name d w words r b.0 b.1 (ap (goes app words) (some_is (b.0.0, with_specifier d name b.0.1) s b.2) ∙ e) later
one_word app place.Elements d w words r s is e later =
    let p = placed (key_of w) d s is in
    by_key app d w words r s.0 p.0 (ap (λ (f : DraftData). said (body app s.0 f) words) (sym p.1) ∙ e) later
one_word app place.To d w words r s is e later =
    let p = with_place (with_data d w) place.Data s is in
    to_word app d s.1 w words r p.0 (later place.Data s.1 tt (ap (λ (q : Place). said (body app q s.1) words) (sym p.1) ∙ e))
one_word app place.Data d w words r s is e later =
    let p = placed (leading w (codes "with")) d s is in
    let l = leading_takes w (codes "with") s.0 p.0 in
    data_word app d w words r l.0 (later place.With d tt (ap (λ (q : Place). said (body app q d) words) l.1 ∙ ap (λ (f : DraftData). said (body app s.0 f) words) (sym p.1) ∙ e))
one_word app place.With d w words r s is e later =
    let p = with_place (with_field d w) place.Field s is in
    with_word app d s.1 w words r p.0 (later place.Field s.1 tt (ap (λ (q : Place). said (body app q s.1) words) (sym p.1) ∙ e))
one_word app place.Field d w words r s is e later =
    let p = placed (leading w (codes "and")) d s is in
    let l = leading_takes w (codes "and") s.0 p.0 in
    field_word app d w words r l.0 (later place.With d tt (ap (λ (q : Place). said (body app q d) words) l.1 ∙ ap (λ (f : DraftData). said (body app s.0 f) words) (sym p.1) ∙ e))

pub takes : (app : AppWord) (r : Said) (words : List (List ℕ)) (p : Place) (d : DraftData) → IsGood p → said (body app p d) words ≡ Some r → Tail p d app words r
takes app r [] p d good e = ends_here p d app r e
takes app r (w ∷ words) p d good e =
    let s = stepped app p d w words r e in
    one_word app p d w words r s.0 s.1 s.2 (λ q f h also. takes app r words q f h also)

-- ---- from the first word
hey_of_tail : (app_word verb : List ℕ) (words : List (List ℕ)) (a : AppWord) (what : Code) (r : Said) → app_word_of app_word ≡ Some a → verb_of verb ≡ Some what → Tail place.Verb (new_draft what) a words r → IsHey (codes "hey" ∷ app_word ∷ verb ∷ words) r.0 r.1
hey_of_tail app_word verb words a what r app_is verb_is t =
    subst (λ (s : Said). IsHey (codes "hey" ∷ app_word ∷ verb ∷ words) s.0 s.1) (sym t.said_is)
    (record {
      app_word = app_word;
      verb = verb;
      spec_part = t.says.spec_part;
      data_part = t.says.data_part;
      field_part = t.says.field_part;
      all = ap (λ (ws : List (List ℕ)). codes "hey" ∷ app_word ∷ verb ∷ ws) t.says.all;
      app_is = app_word_takes app_word a app_is;
      what = what;
      verb_is = verb_is;
      specs = t.specs;
      specs_are = t.says.specs_are;
      data_value = t.data_value;
      data_is = t.says.data_is;
      fields = t.fields;
      fields_are = t.says.fields_are;
      draft = t.draft;
      draft_is = t.draft_is;
      message_is = refl;
    })

pub hey_takes : (words : List (List ℕ)) (r : Said) → said start words ≡ Some r → IsHey words r.0 r.1
hey_takes [] r e = absurd cc
hey_takes (h ∷ []) r e = absurd (no_app (bytes_eq h (codes "hey")) e) where
  no_app : (test : Bool) → (where_true test hey >>= λ t. said t []) ≡ Some r → ⊥
  no_app true e = cc
  no_app false e = cc
hey_takes (h ∷ a ∷ words) r e =
    let first = bind_some (where_true (bytes_eq h (codes "hey")) hey) (λ t. said t (a ∷ words)) r e in
    let key = cond_some (bytes_eq h (codes "hey")) hey first.0 first.1 in
    let e2 = ap (λ (t : State). said t (a ∷ words)) key.1 ∙ first.2 in
    let second = bind_some (app_word_of a >>= λ app. Some (at_app app)) (λ t. said t words) r e2 in
    let app = bind_some (app_word_of a) (λ app. Some (at_app app)) second.0 second.1 in
    let e3 = ap (λ (t : State). said t words) (some_is (at_app app.0) second.0 app.2) ∙ second.2 in
    subst (λ (w : List ℕ). IsHey (w ∷ a ∷ words) r.0 r.1) (sym (eq_of h (codes "hey") key.0)) (behind_app app.0 app.1 words e3) where
      behind_app : (app : AppWord) → app_word_of a ≡ Some app → (words : List (List ℕ)) → said (at_app app) words ≡ Some r → IsHey (codes "hey" ∷ a ∷ words) r.0 r.1
      behind_app app is [] e = absurd cc
      behind_app app is (v ∷ words) e =
          let third = bind_some (verb_of v >>= λ what. Some (body app place.Verb (new_draft what))) (λ t. said t words) r e in
          let what = bind_some (verb_of v) (λ what. Some (body app place.Verb (new_draft what))) third.0 third.1 in
          let e4 = ap (λ (t : State). said t words) (some_is (body app place.Verb (new_draft what.0)) third.0 what.2) ∙ third.2 in
          hey_of_tail a v words app what.0 r is what.1 (takes app r words place.Verb (new_draft what.0) tt e4)
