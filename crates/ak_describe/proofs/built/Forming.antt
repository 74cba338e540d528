-- What the actions in lines say of the properties of their handler, and what stays so where there are more.
use Rattle.std.proofs.Common.{◌≡◌, ◌∙◌, ℕ, Bool, true, false, ◌&&◌, cond, if◌then◌else◌, eqb, List, [], ◌∷◌, ◌++◌, length, Option, None, Some, option_map, bytes_eq, Ok, nat_le, inl, inr, ⊎_elim, ◌⊎◌, eq-eqb, refl, sym, ap, subst}
use Rattle.std.specs.List.{list_all}
use Rattle.std.proofs.lemmas.Bool.{and_from, and_parts, or_left, or_right}
use Rattle.std.proofs.lemmas.List.Folds.{list_all-append}
use Rattle.std.proofs.lemmas.Option.{same_Some}
use Rattle.ak_base.specs.declared.limited.Limited.{Limited}
use Rattle.ak_base.specs.declared.limited.Limited.TheVariants.{Within, Over}
use Rattle.ak_base.specs.Limited.{limited_map}
use Rattle.ak_base.specs.declared.code.Code.{Code}
use Rattle.ak_base.specs.Word.{is_word}
use Rattle.ak_flatten.specs.Spelling.{spelling}
use Rattle.ak_message.specs.declared.kind.Kind.{Kind}
use Rattle.ak_message.specs.Kind.{code_of_kind, is_same_kind, same_kind-is}
use Rattle.ak_message.specs.Message.{ValueData}
use Rattle.ak_base.specs.Option.{where_true, ◌>>=◌}
use Rattle.ak_input.specs.Reading.{field_split}
use Rattle.ak_input.specs.Written.{value_from}
use Rattle.ak_action.specs.declared.action.Action.{Action}
use Rattle.ak_action.specs.declared.action.Action.TheVariants as action
use Rattle.ak_action.specs.declared.action.Dest.{Dest}
use Rattle.ak_action.specs.declared.action.Dest.TheVariants as dest
use Rattle.ak_action.specs.declared.action.Reaction.{Reaction}
use Rattle.ak_action.specs.declared.number.Number.{Number}
use Rattle.ak_action.specs.declared.plan.PlanRow.{PlanRow}
use Rattle.ak_action.specs.declared.template.Given.{Given}
use Rattle.ak_action.specs.declared.template.Given.TheVariants as gets
use Rattle.ak_action.specs.declared.template.Template.{Template}
use Rattle.ak_action.specs.declared.template.TemplateFault.{TemplateFault}
use Rattle.ak_action.specs.declared.template.TemplateFault.TheVariants as fault
use Rattle.ak_action.specs.declared.template.TemplateField.{TemplateField}
use Rattle.ak_action.specs.Number.{number_kind, number_of}
use Rattle.ak_action.specs.Plan.{fits_action, fits_given, fits_reaction, fits_template, is_asked, is_named, is_one, is_property, is_property_of, may_be_property}
use Rattle.ak_action.specs.Template.{add_fault}
use Rattle.ak_action.specs.Values.{ValuesData, one_value}
use Rattle.ak_describe.specs.declared.parts.PropertyParts.{PropertyParts}
use Rattle.ak_describe.specs.Actions.{Built, add_form, ask_action, ask_form, copied_from, copied_or, dest_at, field_added, field_behind, field_kept, fields_behind, given_from, given_values, into_at_end, into_behind, into_found, may_be_asked, named_too, nothing_built, post_action, post_form, property_name, reply_form, set_action, set_form, set_given, short_template, template_form, two_words, with_field, back_behind, has_name, written}
use Rattle.ak_describe.specs.Described.{table_of}
use Rattle.ak_describe.specs.Made.{is_short, limited_then, number_from, number_in, number_of_kind, one_from, one_kept, values_from}
use Rattle.ak_describe.specs.Parts.{property_named}
use Rattle.ak_describe.specs.declared.keyword.Keyword.{Keyword}
use Rattle.ak_describe.specs.declared.keyword.Keyword.TheVariants as key
use Rattle.ak_describe.specs.Pass.{action_from, added_form, bare, or_bad}
use Rattle.ak_describe.specs.Words.{code_at, ends, name_of}
use Rattle.ak_describe.proofs.ground.Outcomes.{bound, bound_within, mapped, mapped_within, not_bad, same_ok, same_within, where_is, within_is}

-- ---- a handler of which nothing but its properties counts
abbrev pub with_properties : List PropertyParts → PlanRow
with_properties ps = record { name = []; next = None; suites = []; table = table_of ps; elements = []; filters = []; reactions = [] }

-- ---- what fits a handler fits one that has its properties
pub record HasAll (p q : PlanRow) : Type 0 where
  pub named : (name : List ℕ) → is_property p name ≡ true → is_property q name ≡ true
  pub of_kind : (name : List ℕ) (kind : Kind) → is_property_of p name kind ≡ true → is_property_of q name kind ≡ true

twice_some : {A : Type 0} (x y : A) → Some (Some x) ≡ Some (Some y) → x ≡ y
twice_some x y e = cc

all_still : {X : Type 0} (f g : X → Bool) → ((x : X) → f x ≡ true → g x ≡ true) → (xs : List X) → list_all f xs ≡ true → list_all g xs ≡ true
all_still f g h [] e = refl
all_still f g h (x ∷ xs) e =
    let both = and_parts (f x) (list_all f xs) e in
    and_from (g x) (list_all g xs) (h x both.0) (all_still f g h xs both.1)

module _ (p q : PlanRow) (has : HasAll p q) where
  given_still : (g : Given) → fits_given p g ≡ true → fits_given q g ≡ true
  given_still (gets.Values v) e = refl
  given_still (gets.Field name) e = refl
  given_still (gets.Property name) e = has.named name e

  template_still : (t : Template) → fits_template p t ≡ true → fits_template q t ≡ true
  template_still t e = all_still (λ (f : TemplateField). fits_given p f.given) (λ (f : TemplateField). fits_given q f.given) (λ f h. given_still f.given h) t.fields e

  property_still : (name : Option (List ℕ)) → may_be_property p name ≡ true → may_be_property q name ≡ true
  property_still None e = refl
  property_still (Some name) e = has.named name e

  action_still : (a : Action) → fits_action p a ≡ true → fits_action q a ≡ true
  action_still (action.Reply t) e = template_still t e
  action_still (action.Post to t back) e = template_still t e
  action_still (action.Ask to t into) e =
      let both = and_parts (is_asked to) (may_be_property p into && fits_template p t) e in
      let others = and_parts (may_be_property p into) (fits_template p t) both.1 in
      and_from (is_asked to) (may_be_property q into && fits_template q t) both.0
      (and_from (may_be_property q into) (fits_template q t) (property_still into others.0) (template_still t others.1))
  action_still (action.Set property value) e =
      let both = and_parts (is_property p property) (is_one value && fits_given p value) e in
      let others = and_parts (is_one value) (fits_given p value) both.1 in
      and_from (is_property q property) (is_one value && fits_given q value) (has.named property both.0)
      (and_from (is_one value) (fits_given q value) others.0 (given_still value others.1))
  action_still (action.Add property amount) e = has.of_kind property (number_kind amount) e
  action_still action.Stop e = refl
  action_still action.Quit e = refl

  pub reaction_still : (r : Reaction) → fits_reaction p r ≡ true → fits_reaction q r ≡ true
  reaction_still r e = all_still (fits_action p) (fits_action q) action_still r.actions e

  pub reactions_still : (rs : List Reaction) → list_all (fits_reaction p) rs ≡ true → list_all (fits_reaction q) rs ≡ true
  reactions_still rs e = all_still (fits_reaction p) (fits_reaction q) reaction_still rs e

-- ---- properties by their names
pub same_kind : (kind : Kind) → is_same_kind kind kind ≡ true
same_kind kind = eq-eqb (code_of_kind kind) (code_of_kind kind) refl

abbrev Finds : List PropertyParts → List ℕ → PropertyParts → Type 0
Finds ps name x = (is_named (table_of ps) name ≡ true) × (is_property_of (with_properties ps) name x.row.kind ≡ true)

found_first : (p : PropertyParts) (ps : List PropertyParts) (name : List ℕ) (x : PropertyParts) (b : Bool) → bytes_eq p.row.name name ≡ b → cond b (Some p) (property_named ps name) ≡ Some x → (property_named ps name ≡ Some x → Finds ps name x) → Finds (p ∷ ps) name x
found_first p ps name x true at e later =
    let same : p ≡ x = same_Some p x e in (
      or_left (bytes_eq p.row.name name) (is_named (table_of ps) name) at,
      or_left (bytes_eq p.row.name name && is_same_kind p.row.kind x.row.kind) (is_property_of (with_properties ps) name x.row.kind)
          (and_from (bytes_eq p.row.name name) (is_same_kind p.row.kind x.row.kind) at (subst (λ (y : PropertyParts). is_same_kind p.row.kind y.row.kind ≡ true) same (same_kind p.row.kind))),
    )
found_first p ps name x false at e later =
    let t = later e in (
      or_right (bytes_eq p.row.name name) (is_named (table_of ps) name) t.0,
      or_right (bytes_eq p.row.name name && is_same_kind p.row.kind x.row.kind) (is_property_of (with_properties ps) name x.row.kind) t.1,
    )

found : (ps : List PropertyParts) (name : List ℕ) (x : PropertyParts) → property_named ps name ≡ Some x → Finds ps name x
found [] name x e = absurd cc
found (p ∷ ps) name x e = found_first p ps name x (bytes_eq p.row.name name) refl e (found ps name x)

module _ (ps : List PropertyParts) where
  name_found : (word name : List ℕ) → property_name ps word ≡ Some name → is_named (table_of ps) name ≡ true
  name_found word name e =
      let b = bound (property_named ps word) (λ _. name_of word) name e in
      let t = where_is (is_word word) word name b.then_is in
      subst (λ (n : List ℕ). is_named (table_of ps) n ≡ true) t.1 (found ps word b.value b.is).0

  -- ---- what a field gets
  abbrev Fitting : Given → Type 0
  Fitting g = fits_given (with_properties ps) g ≡ true

  copied_cases : (a b : Bool) (name : List ℕ) (g : Given)
      → (if a then (name_of name >>= λ n. Some (Some (gets.Field n))) else if b then (property_name ps name >>= λ n. Some (Some (gets.Property n))) else Some None) ≡ Some (Some g) → Fitting g × (is_one g ≡ true)
  copied_cases true b name g e =
      let t = bound (name_of name) (λ n. Some (Some (gets.Field n))) (Some g) e in
      let same : gets.Field t.value ≡ g = twice_some (gets.Field t.value) g t.then_is in
      subst (λ (x : Given). Fitting x × (is_one x ≡ true)) same (refl, refl)
  copied_cases false true name g e =
      let t = bound (property_name ps name) (λ n. Some (Some (gets.Property n))) (Some g) e in
      let same : gets.Property t.value ≡ g = twice_some (gets.Property t.value) g t.then_is in
      subst (λ (x : Given). Fitting x × (is_one x ≡ true)) same (name_found name t.value t.is, refl)
  copied_cases false false name g e = absurd cc

  copied_fits : (text : List ℕ) (g : Given) → copied_from ps text ≡ Some (Some g) → Fitting g × (is_one g ≡ true)
  copied_fits [] g e = absurd cc
  copied_fits (sign ∷ name) g e = copied_cases (eqb sign 36) (eqb sign 64) name g e

  values_fit : (values : Option (Limited ValuesData)) (g : Given) → option_map given_values values ≡ Some (Within g) → (v : ValuesData) × (values ≡ Some (Within v)) × (gets.Values v ≡ g)
  values_fit values g e =
      let t = mapped values given_values (Within g) e in
      let u = mapped_within t.value gets.Values g t.then_is in
      (u.value, t.is ∙ ap (λ (x : Limited ValuesData). Some x) u.is, u.then_is)

  given_by : (text : List ℕ) (copied : Option Given) (g : Given) (values : Option (Limited ValuesData)) → copied_from ps text ≡ Some copied → copied_or copied values ≡ Some (Within g)
      → (Fitting g × (is_one g ≡ true)) ⊎ ((v : ValuesData) × (values ≡ Some (Within v)) × (gets.Values v ≡ g))
  given_by text (Some c) g values is e =
      let same : c ≡ g = same_within c g (same_Some (Within c) (Within g) e) in
      inl (copied_fits text g (is ∙ ap (λ (x : Given). Some (Some x)) same))
  given_by text None g values is e = inr (values_fit values g e)

  given_fits : (text : List ℕ) (g : Given) → given_from ps text ≡ Some (Within g) → Fitting g
  unfolding given_from
  given_fits text g e =
      let t = bound (copied_from ps text) (λ copied. copied_or copied (values_from text)) (Within g) e in
      ⊎_elim
      (λ (h : Fitting g × (is_one g ≡ true)). h.0)
      (λ (h : (v : ValuesData) × (values_from text ≡ Some (Within v)) × (gets.Values v ≡ g)). subst (λ (x : Given). Fitting x) h.2 refl)
      (given_by text t.value g (values_from text) t.is t.then_is)

  one_is : (word : List ℕ) (vs : ValuesData) → one_from word ≡ Some (Within vs) → eqb (length vs.list) 1 ≡ true
  unfolding one_from
  one_is word vs e =
      let t = mapped (value_from word) (limited_then one_kept) (Within vs) e in
      let u = bound_within t.value one_kept vs t.then_is in
      let w = within_is (is_short u.value) (one_value u.value) vs u.then_is in
      subst (λ (x : ValuesData). eqb (length x.list) 1 ≡ true) w.1 refl

  set_fits : (word : List ℕ) (g : Given) → set_given ps word ≡ Some (Within g) → Fitting g × (is_one g ≡ true)
  unfolding set_given
  set_fits word g e =
      let t = bound (copied_from ps word) (λ copied. copied_or copied (one_from word)) (Within g) e in
      ⊎_elim
      (λ (h : Fitting g × (is_one g ≡ true)). h)
      (λ (h : (v : ValuesData) × (one_from word ≡ Some (Within v)) × (gets.Values v ≡ g)). subst (λ (x : Given). Fitting x × (is_one x ≡ true)) h.2 (refl, one_is word h.0 h.1))
      (given_by word t.value g (one_from word) t.is t.then_is)

  -- ---- the message of an action
  abbrev Filled : List TemplateField → Type 0
  Filled fields = list_all (λ f. fits_given (with_properties ps) f.given) fields ≡ true

  abbrev FilledIf : Limited (List TemplateField) → Type 0
  FilledIf fields = (fs : List TemplateField) → fields ≡ Within fs → Filled fs

  filled_kept : (f : Option TemplateFault) (fields : List TemplateField) (out : Limited (List TemplateField)) → field_kept f fields ≡ Some out → Filled fields → FilledIf out
  filled_kept None fields out e filled fs is = let same : Within fields ≡ out = same_Some (Within fields) out e in subst (λ (x : List TemplateField). Filled x) (same_within fields fs (same ∙ is)) filled
  filled_kept (Some fault.FieldLimit) fields out e filled fs is = absurd (cc (e, is))
  filled_kept (Some fault.BadName) fields out e filled fs is = absurd cc
  filled_kept (Some fault.NameInUse) fields out e filled fs is = absurd cc
  filled_kept (Some fault.NoMemory) fields out e filled fs is = absurd cc

  filled_with : (fields : Limited (List TemplateField)) (name : List ℕ) (g : Limited Given) (out : Limited (List TemplateField)) → with_field fields name g ≡ Some out → FilledIf fields → ((x : Given) → g ≡ Within x → Fitting x) → FilledIf out
  filled_with Over name g out e filled given fs is = absurd (cc (e, is))
  filled_with (Within fields) name Over out e filled given fs is = absurd (cc (e, is))
  filled_with (Within fields) name (Within g) out e filled given fs is =
      filled_kept (add_fault fields name) (fields ++ (record { name = name; given = g }) ∷ []) out e
      (list_all-append (λ (f : TemplateField). fits_given (with_properties ps) f.given) fields ((record { name = name; given = g }) ∷ [])
      ∙ and_from (list_all (λ (f : TemplateField). fits_given (with_properties ps) f.given) fields) (fits_given (with_properties ps) g && true) (filled fields refl) (and_from (fits_given (with_properties ps) g) true (given g refl) refl))
      fs is

  filled_too : (b : Built) (name : List ℕ) (g : Limited Given) (out : Built) → named_too b name g ≡ Some out → FilledIf b.fields → ((x : Given) → g ≡ Within x → Fitting x) → FilledIf out.fields
  filled_too b name g out e filled given =
      let t = bound (name_of name) (λ n. with_field b.fields n g >>= λ fields. Some (record { names = b.names ++ name ∷ []; fields = fields })) out e in
      let u = bound (with_field b.fields t.value g) (λ (fields : Limited (List TemplateField)). Some (record { names = b.names ++ name ∷ []; fields = fields })) out t.then_is in
      let same : record { names = b.names ++ name ∷ []; fields = u.value } ≡ out = same_Some (record { names = b.names ++ name ∷ []; fields = u.value }) out u.then_is in
      subst (λ (x : Built). FilledIf x.fields) same (filled_with b.fields t.value g u.value u.is filled given)

  filled_cases : (has : Bool) (b : Built) (name : List ℕ) (g : Limited Given) (out : Built) → (if has then None else named_too b name g) ≡ Some out
      → FilledIf b.fields → ((x : Given) → g ≡ Within x → Fitting x) → FilledIf out.fields
  filled_cases true b name g out e filled given = absurd cc
  filled_cases false b name g out e filled given = filled_too b name g out e filled given

  filled_behind : (b : Built) (word : List ℕ) (out : Built) → field_behind ps b word ≡ Some out → FilledIf b.fields → FilledIf out.fields
  unfolding field_behind
  filled_behind b word out e filled =
      let t = bound (field_split word) (λ field. given_from ps field.1 >>= λ g. field_added b field.0 g) out e in
      let u = bound (given_from ps t.value.1) (λ g. field_added b t.value.0 g) out t.then_is in
      filled_cases (has_name b.names t.value.0) b t.value.0 u.value out u.then_is filled
      (λ x is. given_fits t.value.1 x (u.is ∙ ap (λ (g : Limited Given). Some g) is))

  all_filled : (b : Built) (words : List (List ℕ)) (out : Built) → fields_behind ps b words ≡ Some out → FilledIf b.fields → FilledIf out.fields
  unfolding fields_behind
  all_filled b [] out e filled = subst (λ (x : Built). FilledIf x.fields) (same_Some b out e) filled
  all_filled b (word ∷ words) out e filled =
      let t = bound (field_behind ps b word) (λ more. fields_behind ps more words) out e in
      all_filled t.value words out t.then_is (filled_behind b word t.value t.is filled)

  short_fits : (what : Code) (fields : List TemplateField) (m : Template) → short_template what fields ≡ Within m → Filled fields → fits_template (with_properties ps) m ≡ true
  short_fits what fields m e filled =
      let w = within_is (nat_le (length (spelling (written what fields))) 4096) (record { what = what; fields = fields }) m e in
      subst (λ (x : Template). fits_template (with_properties ps) x ≡ true) w.1 filled

  template_fits : (words : List (List ℕ)) (m : Template) → template_form ps words ≡ Some (Within m) → fits_template (with_properties ps) m ≡ true
  unfolding template_form
  template_fits words m e =
      let t = bound (code_at words) (λ what. fields_behind ps nothing_built what.1 >>= λ b. Some (limited_then (short_template what.0) b.fields)) (Within m) e in
      let u = bound (fields_behind ps nothing_built t.value.1) (λ (b : Built). Some (limited_then (short_template t.value.0) b.fields)) (Within m) t.then_is in
      let v = bound_within u.value.fields (short_template t.value.0) m (same_Some (limited_then (short_template t.value.0) u.value.fields) (Within m) u.then_is) in
      short_fits t.value.0 v.value m v.then_is (all_filled nothing_built t.value.1 u.value u.is (λ fs is. subst (λ (x : List TemplateField). Filled x) (same_within [] fs is) refl) v.value v.is)

  -- ---- the forms of actions
  abbrev Acting : Action → Type 0
  Acting a = fits_action (with_properties ps) a ≡ true

  reply_fits : (words : List (List ℕ)) (a : Action) → reply_form ps words ≡ Some (Within a) → Acting a
  unfolding reply_form
  reply_fits words a e =
      let t = mapped (template_form ps words) (λ (m : Limited Template). limited_map action.Reply m) (Within a) e in
      let u = mapped_within t.value action.Reply a t.then_is in
      subst (λ (x : Action). Acting x) u.then_is (template_fits words u.value (t.is ∙ ap (λ (m : Limited Template). Some m) u.is))

  post_fits : (words : List (List ℕ)) (a : Action) → post_form ps words ≡ Some (Within a) → Acting a
  unfolding post_form
  post_fits words a e =
      let t = bound (dest_at words) (λ to. template_form ps (back_behind to.1).1 >>= λ m. Some (post_action to.0 (back_behind to.1).0 m)) (Within a) e in
      let u = bound (template_form ps (back_behind t.value.1).1) (λ m. Some (post_action t.value.0 (back_behind t.value.1).0 m)) (Within a) t.then_is in
      let v = mapped_within u.value (λ (m : Template). action.Post t.value.0 m (back_behind t.value.1).0) a (same_Some (post_action t.value.0 (back_behind t.value.1).0 u.value) (Within a) u.then_is) in
      subst (λ (x : Action). Acting x) v.then_is (template_fits (back_behind t.value.1).1 v.value (u.is ∙ ap (λ (m : Limited Template). Some m) v.is))

  asked_is : (to : Dest) → may_be_asked to ≡ true → is_asked to ≡ true
  asked_is dest.Own e = e
  asked_is (dest.Looper name) e = refl
  asked_is (dest.Handler name) e = e
  asked_is (dest.App word) e = refl

  into_fits : (words : List (List ℕ)) (o : Option (List ℕ × List (List ℕ))) (into : Option (List ℕ) × List (List ℕ)) → into_found ps words o ≡ Some into → may_be_property (with_properties ps) into.0 ≡ true
  into_fits words None into e =
      let same : (None, words) ≡ into = same_Some (None, words) into e in
      subst (λ (x : Option (List ℕ) × List (List ℕ)). may_be_property (with_properties ps) x.0 ≡ true) same refl
  into_fits words (Some last) into e =
      let t = bound (property_name ps last.0) (λ name. Some (Some name, last.1)) into e in
      let same : (Some t.value, last.1) ≡ into = same_Some (Some t.value, last.1) into t.then_is in
      subst (λ (x : Option (List ℕ) × List (List ℕ)). may_be_property (with_properties ps) x.0 ≡ true) same (name_found last.0 t.value t.is)

  ask_fits : (words : List (List ℕ)) (a : Action) → ask_form ps words ≡ Some (Within a) → Acting a
  unfolding ask_form
  ask_fits words a e =
      let t = bound (dest_at words) (λ to. where_true (may_be_asked to.0) to.1 >>= λ asked. into_behind ps asked >>= λ into. template_form ps into.1 >>= λ m. Some (ask_action to.0 into.0 m)) (Within a) e in
      let u = bound (where_true (may_be_asked t.value.0) t.value.1) (λ asked. into_behind ps asked >>= λ into. template_form ps into.1 >>= λ m. Some (ask_action t.value.0 into.0 m)) (Within a) t.then_is in
      let v = bound (into_behind ps u.value) (λ into. template_form ps into.1 >>= λ m. Some (ask_action t.value.0 into.0 m)) (Within a) u.then_is in
      let w = bound (template_form ps v.value.1) (λ m. Some (ask_action t.value.0 v.value.0 m)) (Within a) v.then_is in
      let x = mapped_within w.value (λ (m : Template). action.Ask t.value.0 m v.value.0) a (same_Some (ask_action t.value.0 v.value.0 w.value) (Within a) w.then_is) in
      let asked = where_is (may_be_asked t.value.0) t.value.1 u.value u.is in
      subst (λ (y : Action). Acting y) x.then_is
      (and_from (is_asked t.value.0) (may_be_property (with_properties ps) v.value.0 && fits_template (with_properties ps) x.value) (asked_is t.value.0 asked.0)
      (and_from (may_be_property (with_properties ps) v.value.0) (fits_template (with_properties ps) x.value) (into_fits u.value (into_at_end u.value) v.value v.is)
      (template_fits v.value.1 x.value (w.is ∙ ap (λ (m : Limited Template). Some m) x.is))))

  setting_fits : (words : List (List ℕ)) (a : Action) → set_form ps words ≡ Some (Within a) → Acting a
  unfolding set_form
  setting_fits words a e =
      let t = bound (two_words words) (λ two. property_name ps two.0 >>= λ property. set_given ps two.1 >>= λ g. Some (set_action property g)) (Within a) e in
      let u = bound (property_name ps t.value.0) (λ property. set_given ps t.value.1 >>= λ g. Some (set_action property g)) (Within a) t.then_is in
      let v = bound (set_given ps t.value.1) (λ g. Some (set_action u.value g)) (Within a) u.then_is in
      let w = mapped_within v.value (λ (value : Given). action.Set u.value value) a (same_Some (set_action u.value v.value) (Within a) v.then_is) in
      let g = set_fits t.value.1 w.value (v.is ∙ ap (λ (m : Limited Given). Some m) w.is) in
      subst (λ (y : Action). Acting y) w.then_is
      (and_from (is_named (table_of ps) u.value) (is_one w.value && fits_given (with_properties ps) w.value) (name_found t.value.0 u.value u.is)
      (and_from (is_one w.value) (fits_given (with_properties ps) w.value) g.1 g.0))

  number_kept : (kind : Kind) (v : Limited ValueData) (n : Number) → number_in kind v ≡ Some n → (x : ValueData) × (number_of_kind kind x ≡ Some n)
  number_kept kind Over n e = absurd cc
  number_kept kind (Within x) n e = (x, e)

  number_is : (kind : Kind) (word : List ℕ) (n : Number) → number_from kind word ≡ Some n → number_kind n ≡ kind
  unfolding number_from
  number_is kind word n e =
      let t = bound (value_from word) (number_in kind) n e in
      let u = number_kept kind t.value n t.then_is in
      let v = bound (number_of u.0) (λ (m : Number). where_true (is_same_kind (number_kind m) kind) m) n u.1 in
      let w = where_is (is_same_kind (number_kind v.value) kind) v.value n v.then_is in
      subst (λ (m : Number). number_kind m ≡ kind) w.1 (same_kind-is (number_kind v.value) kind w.0)

  adding_fits : (words : List (List ℕ)) (a : Action) → add_form ps words ≡ Some a → Acting a
  unfolding add_form
  adding_fits words a e =
      let t = bound (two_words words) (λ two. property_named ps two.0 >>= λ parts. number_from parts.row.kind two.1 >>= λ amount. name_of two.0 >>= λ property. Some (action.Add property amount)) a e in
      let u = bound (property_named ps t.value.0) (λ parts. number_from parts.row.kind t.value.1 >>= λ amount. name_of t.value.0 >>= λ property. Some (action.Add property amount)) a t.then_is in
      let v = bound (number_from u.value.row.kind t.value.1) (λ amount. name_of t.value.0 >>= λ property. Some (action.Add property amount)) a u.then_is in
      let w = bound (name_of t.value.0) (λ (property : List ℕ). Some (action.Add property v.value)) a v.then_is in
      let name = where_is (is_word t.value.0) t.value.0 w.value w.is in
      let same : action.Add w.value v.value ≡ a = same_Some (action.Add w.value v.value) a w.then_is in
      subst (λ (y : Action). Acting y) same
      (subst (λ (x : List ℕ × Kind). is_property_of (with_properties ps) x.0 x.1 ≡ true) (λ i. (name.1 i, sym (number_is u.value.row.kind t.value.1 v.value v.is) i))
      (found ps t.value.0 u.value u.is).1)

  bare_fits : (b : Action) (words : List (List ℕ)) (a : Action) → Acting b → bare b words ≡ Some (Within a) → Acting a
  bare_fits b words a fits e = bare_by (ends words) e
    where
      bare_by : (t : Bool) → (if t then Some (Within b) else None) ≡ Some (Within a) → Acting a
      bare_by true h = subst (λ (y : Action). Acting y) (same_within b a (same_Some (Within b) (Within a) h)) fits
      bare_by false h = absurd cc

  added_fits : (words : List (List ℕ)) (a : Action) → added_form ps words ≡ Some (Within a) → Acting a
  added_fits words a e =
      let t = bound (add_form ps words) (λ (x : Action). Some (Within x)) (Within a) e in
      adding_fits words a (t.is ∙ ap (λ (x : Action). Some x) (same_within t.value a (same_Some (Within t.value) (Within a) t.then_is)))

  -- what is read of an action
  abbrev Read : Option (Limited Action) → Limited Action → Type 0
  Read form o = or_bad form (λ a. Ok a) ≡ Ok o

  by_form : (form : Option (Limited Action)) (a : Action) → ((x : Action) → form ≡ Some (Within x) → Acting x) → Read form (Within a) → Acting a
  by_form form a fits e =
      let t = not_bad form (λ (x : Limited Action). Ok x) (Within a) e in
      fits a (t.is ∙ ap (λ (x : Limited Action). Some x) (same_ok t.value (Within a) t.then_is))

  pub action_fits : (k : Keyword) (words : List (List ℕ)) (a : Action) → action_from ps k words ≡ Ok (Within a) → Acting a
  action_fits key.Reply words a e = by_form (reply_form ps words) a (reply_fits words) e
  action_fits key.Post words a e = by_form (post_form ps words) a (post_fits words) e
  action_fits key.Ask words a e = by_form (ask_form ps words) a (ask_fits words) e
  action_fits key.Set words a e = by_form (set_form ps words) a (setting_fits words) e
  action_fits key.Add words a e = by_form (added_form ps words) a (added_fits words) e
  action_fits key.Drop words a e = by_form (bare action.Stop words) a (λ x. bare_fits action.Stop words x refl) e
  action_fits key.Quit words a e = by_form (bare action.Quit words) a (λ x. bare_fits action.Quit words x refl) e
  action_fits key.App words a e = absurd cc
  action_fits key.Looper words a e = absurd cc
  action_fits key.Hook words a e = absurd cc
  action_fits key.Prefer words a e = absurd cc
  action_fits key.Common words a e = absurd cc
  action_fits key.Handler words a e = absurd cc
  action_fits key.Next words a e = absurd cc
  action_fits key.Suite words a e = absurd cc
  action_fits key.Filter words a e = absurd cc
  action_fits key.Property words a e = absurd cc
  action_fits key.Element words a e = absurd cc
  action_fits key.On words a e = absurd cc
