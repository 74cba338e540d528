-- What the lines of a handler make of it.
use Rattle.std.proofs.Common.{◌≡◌, ◌∙◌, ℕ, zero, suc, ◌-◌, ◌<◌, Bool, true, false, not, ◌&&◌, ◌||◌, cond, if◌then◌else◌, eqb, ltb, List, [], ◌∷◌, ◌++◌, length, set, Option, None, Some, is_some, slice_get, option_map, codes, bytes_eq, Ok, Err, refl, sym, ap, subst, arith, ltb-true}
use Rattle.std.specs.List.{list_all, list_any}
use Rattle.std.specs.Cmp.Lexicographic.{nat_list_eq_equiv}
use Rattle.std.proofs.lemmas.Bool.{and_from, and_parts, or_left, or_right, or_parts, or_from}
use Rattle.std.proofs.lemmas.List.{length_push, length-set}
use Rattle.std.proofs.lemmas.List.Folds.{list_all-append}
use Rattle.ak_base.specs.declared.limited.Limited.{Limited}
use Rattle.ak_base.specs.declared.code.Code.{Code}
use Rattle.ak_base.specs.declared.ending.RefusalKind.TheVariants as refusal
use Rattle.ak_filter.specs.declared.filter.Filter.{Filter}
use Rattle.ak_message.specs.declared.kind.Kind.{Kind}
use Rattle.ak_message.specs.declared.kind.Kind.TheVariants as k
use Rattle.ak_message.specs.Kind.{is_same_kind}
use Rattle.ak_message.specs.Message.{ValueData}
use Rattle.ak_message.specs.Message as message
use Rattle.ak_base.specs.Option.{where_true, ◌>>=◌}
use Rattle.ak_property.specs.declared.table.PropertyRow.{PropertyRow}
use Rattle.ak_value.specs.declared.fault.ElementFault.{ElementFault}
use Rattle.ak_value.specs.declared.fault.ElementFault.TheVariants as fault
use Rattle.ak_value.specs.Elements.{add_fault, with_last}
use Rattle.ak_action.specs.declared.action.Action.{Action}
use Rattle.ak_action.specs.declared.action.Action.TheVariants as action
use Rattle.ak_action.specs.declared.action.Dest.{Dest}
use Rattle.ak_action.specs.declared.action.Dest.TheVariants as dest
use Rattle.ak_action.specs.declared.action.Reaction.{Reaction}
use Rattle.ak_action.specs.Plan.{fits_action, fits_kind, fits_reaction, is_named, kinds_fit, table_names_differ}
use Rattle.ak_describe.specs.declared.form.property.PropertyForm.{PropertyForm}
use Rattle.ak_describe.specs.declared.keyword.Keyword.{Keyword}
use Rattle.ak_describe.specs.declared.keyword.Keyword.TheVariants as key
use Rattle.ak_describe.specs.declared.named.Need.{Need}
use Rattle.ak_describe.specs.declared.named.Need.TheVariants as needs
use Rattle.ak_describe.specs.declared.parts.PropertyParts.{PropertyParts}
use Rattle.ak_describe.specs.Described.{elements_of, table_of}
use Rattle.ak_describe.specs.Forms.{commands_at, element_form, filter_form, forms_at, kind_at, property_form, text_behind}
use Rattle.ak_describe.specs.Named.{need_of_action, need_of_ask, need_of_filter, need_of_post}
use Rattle.ak_describe.specs.Parts.{RowData, has_reaction, property_named}
use Rattle.ak_describe.specs.Pass.{action_added, action_from, action_line, carry_in_row, element_added, element_in, element_kept, element_line, filter_line, judged, new_property, new_reaction, on_last, or_limit, property_added, property_line, reaction_line, suite_line, with_action}
use Rattle.ak_describe.specs.Words.{ends, first_of, kind_of, name_at, only_code, only_name}
use Rattle.ak_describe.proofs.built.Fits.{ActionsFit, IsNoNext, KindsFit, NamesDiffer, RowLeft}
use Rattle.ak_describe.proofs.built.Forming.{HasAll, action_fits, reactions_still, same_kind, with_properties}
use Rattle.ak_describe.proofs.ground.Outcomes.{allowed, bound, changed, not_bad, not_over, same_ok, unless, went, where_is}

-- ---- what may be named in a line
pub no_next_handler : (to : Option (List ℕ)) → IsNoNext (option_map needs.Handler to)
no_next_handler None = tt
no_next_handler (Some name) = tt

no_next_post : (to : Dest) → IsNoNext (need_of_post to)
no_next_post dest.Own = tt
no_next_post (dest.Looper name) = tt
no_next_post (dest.Handler name) = tt
no_next_post (dest.App word) = tt

no_next_ask : (to : Dest) → IsNoNext (need_of_ask to)
no_next_ask dest.Own = tt
no_next_ask (dest.Looper name) = tt
no_next_ask (dest.Handler name) = tt
no_next_ask (dest.App word) = tt

no_next_action : (a : Action) → IsNoNext (need_of_action a)
no_next_action (action.Reply m) = tt
no_next_action (action.Post to m back) = no_next_post to
no_next_action (action.Ask to m into) = no_next_ask to
no_next_action (action.Set property value) = tt
no_next_action (action.Add property amount) = tt
no_next_action action.Stop = tt
no_next_action action.Quit = tt

-- ---- a handler with other parts
-- it is left so, where it is what was made
left_is : (r : RowData) (x y : RowData × Option Need) → x ≡ y → RowLeft r x.0 x.1 → RowLeft r y.0 y.1
left_is r x y e h = subst (λ (z : RowData × Option Need). RowLeft r z.0 z.1) e h

abbrev with_suite : RowData → List ℕ → RowData × Option Need
with_suite r name = (record r { suites = r.suites ++ name ∷ [] }, None)

suite_line_left : (r : RowData) (words : List (List ℕ)) (y : RowData × Option Need) → suite_line r words ≡ Ok y → RowLeft r y.0 y.1
suite_line_left r words y e =
    let t = not_bad (only_name words) (λ (name : List ℕ). judged false (ltb (length r.suites) 16) (with_suite r name)) y e in
    let u = allowed false (ltb (length r.suites) 16) (with_suite r t.value) y t.then_is in
    let room : length r.suites < 16 = ltb-true (length r.suites) 16 u.1 in
    left_is r (with_suite r t.value) y u.2
    (record {
      fits = λ f. record { suites = omega (arith, room, length_push r.suites t.value); properties = f.properties; reactions = f.reactions; names_differ = f.names_differ; kinds_fit = f.kinds_fit; actions_fit = f.actions_fit };
      name = refl;
      next = refl;
      no_next = tt;
    })

abbrev with_filter : RowData → Filter → RowData × Option Need
with_filter r f = (record r { filters = r.filters ++ f ∷ [] }, need_of_filter f)

filter_line_left : (r : RowData) (words : List (List ℕ)) (y : RowData × Option Need) → filter_line r words ≡ Ok y → RowLeft r y.0 y.1
filter_line_left r words y e =
    let t = not_bad (filter_form words) (λ (f : Filter). judged false (not (eqb (length r.filters) 32)) (with_filter r f)) y e in
    let u = allowed false (not (eqb (length r.filters) 32)) (with_filter r t.value) y t.then_is in
    left_is r (with_filter r t.value) y u.2
    (record {
      fits = λ f. record { suites = f.suites; properties = f.properties; reactions = f.reactions; names_differ = f.names_differ; kinds_fit = f.kinds_fit; actions_fit = f.actions_fit };
      name = refl;
      next = refl;
      no_next = no_next_handler t.value.to;
    })

-- ---- properties
-- no letters are those of messages
apart_by : (b : Bool) (x kind : Kind) (o : Option Kind) → (if b then Some x else o) ≡ Some kind → (not (is_same_kind x k.Message) ≡ true) → (o ≡ Some kind → not (is_same_kind kind k.Message) ≡ true) → not (is_same_kind kind k.Message) ≡ true
apart_by true x kind o e h later = let same : x ≡ kind = cc in subst (λ z. not (is_same_kind z k.Message) ≡ true) same h
apart_by false x kind o e h later = later e

no_message : (word : List ℕ) (kind : Kind) → kind_of word ≡ Some kind → not (is_same_kind kind k.Message) ≡ true
no_message word kind e =
    apart_by (bytes_eq word (codes "BOOL")) k.Bool kind _ e refl (λ e1.
    apart_by (bytes_eq word (codes "BYTE")) k.Int8 kind _ e1 refl (λ e2.
    apart_by (bytes_eq word (codes "SHRT")) k.Int16 kind _ e2 refl (λ e3.
    apart_by (bytes_eq word (codes "LONG")) k.Int32 kind _ e3 refl (λ e4.
    apart_by (bytes_eq word (codes "LLNG")) k.Int64 kind _ e4 refl (λ e5.
    apart_by (bytes_eq word (codes "UBYT")) k.UInt8 kind _ e5 refl (λ e6.
    apart_by (bytes_eq word (codes "USHT")) k.UInt16 kind _ e6 refl (λ e7.
    apart_by (bytes_eq word (codes "ULNG")) k.UInt32 kind _ e7 refl (λ e8.
    apart_by (bytes_eq word (codes "ULLG")) k.UInt64 kind _ e8 refl (λ e9.
    apart_by (bytes_eq word (codes "CSTR")) k.Text kind _ e9 refl (λ e10.
    apart_by (bytes_eq word (codes "MSNG")) k.Messenger kind _ e10 refl (λ e11.
    apart_by (bytes_eq word (codes "RAWT")) k.Raw kind None e11 refl (λ e12. absurd cc))))))))))))

kind_fits : (words : List (List ℕ)) (y : Kind × List (List ℕ)) → kind_at words ≡ Some y → not (is_same_kind y.0 k.Message) ≡ true
kind_fits words y e =
    let t = bound (first_of words) (λ word. kind_of word.0 >>= λ kind. Some (kind, word.1)) y e in
    let u = bound (kind_of t.value.0) (λ (kind : Kind). Some (kind, t.value.1)) y t.then_is in
    let same : (u.value, t.value.1) ≡ y = cc in
    subst (λ (z : Kind × List (List ℕ)). not (is_same_kind z.0 k.Message) ≡ true) same (no_message t.value.0 u.value u.is)

form_fits : (words : List (List ℕ)) (p : PropertyForm) → property_form words ≡ Some p → not (is_same_kind p.kind k.Message) ≡ true
unfolding property_form
form_fits words p e =
    let t = bound (name_at words) (λ name. kind_at name.1 >>= λ kind. commands_at kind.1 >>= λ commands. forms_at commands.1 >>= λ forms. text_behind forms.1 (codes "usage") >>= λ usage. where_true (ends usage.1) (record { name = name.0; kind = kind.0; commands = commands.0; forms = forms.0; usage = usage.0 })) p e in
    let u = bound (kind_at t.value.1) (λ kind. commands_at kind.1 >>= λ commands. forms_at commands.1 >>= λ forms. text_behind forms.1 (codes "usage") >>= λ usage. where_true (ends usage.1) (record { name = t.value.0; kind = kind.0; commands = commands.0; forms = forms.0; usage = usage.0 })) p t.then_is in
    let v = bound (commands_at u.value.1) (λ commands. forms_at commands.1 >>= λ forms. text_behind forms.1 (codes "usage") >>= λ usage. where_true (ends usage.1) (record { name = t.value.0; kind = u.value.0; commands = commands.0; forms = forms.0; usage = usage.0 })) p u.then_is in
    let w = bound (forms_at v.value.1) (λ forms. text_behind forms.1 (codes "usage") >>= λ usage. where_true (ends usage.1) (record { name = t.value.0; kind = u.value.0; commands = v.value.0; forms = forms.0; usage = usage.0 })) p v.then_is in
    let x = bound (text_behind w.value.1 (codes "usage")) (λ usage. where_true (ends usage.1) (record { name = t.value.0; kind = u.value.0; commands = v.value.0; forms = w.value.0; usage = usage.0 })) p w.then_is in
    let z = where_is (ends x.value.1) (record { name = t.value.0; kind = u.value.0; commands = v.value.0; forms = w.value.0; usage = x.value.0 }) p x.then_is in
    subst (λ (q : PropertyForm). not (is_same_kind q.kind k.Message) ≡ true) z.1 (kind_fits t.value.1 u.value u.is)

-- with one property more
not_found : (b : Bool) (p : PropertyParts) (o : Option PropertyParts) → is_some (cond b (Some p) o) ≡ false → (b ≡ false) × (is_some o ≡ false)
not_found true p o e = absurd cc
not_found false p o e = (refl, e)

unnamed : (ps : List PropertyParts) (new : PropertyParts) (name : List ℕ) → is_named (table_of ps) name ≡ false → bytes_eq new.row.name name ≡ false → is_named (table_of (ps ++ new ∷ [])) name ≡ false
unnamed [] new name e other = or_from (bytes_eq new.row.name name) false other refl
unnamed (p ∷ ps) new name e other =
    let both = or_parts (bytes_eq p.row.name name) (is_named (table_of ps) name) e in
    or_from (bytes_eq p.row.name name) (is_named (table_of (ps ++ new ∷ [])) name) both.0 (unnamed ps new name both.1 other)

first_apart : (b t : Bool) → cond b false t ≡ true → (b ≡ false) × (t ≡ true)
first_apart true t e = absurd cc
first_apart false t e = (refl, e)

names_more : (ps : List PropertyParts) (new : PropertyParts) → is_some (property_named ps new.row.name) ≡ false → NamesDiffer ps → NamesDiffer (ps ++ new ∷ [])
names_more [] new none e = refl
names_more (p ∷ ps) new none e =
    let free = not_found (bytes_eq p.row.name new.row.name) p (property_named ps new.row.name) none in
    let both = first_apart (is_named (table_of ps) p.row.name) (table_names_differ (table_of ps)) e in
    ap (λ b. cond b false (table_names_differ (table_of (ps ++ new ∷ [])))) (unnamed ps new p.row.name both.0 (nat_list_eq_equiv.symm new.row.name p.row.name ∙ free.0))
    ∙ names_more ps new free.1 both.1

kinds_more : (ps : List PropertyParts) (new : PropertyParts) → fits_kind new.row new.elements ≡ true → KindsFit ps → KindsFit (ps ++ new ∷ [])
kinds_more [] new fit e = and_from (fits_kind new.row new.elements) true fit refl
kinds_more (p ∷ ps) new fit e =
    let both = and_parts (fits_kind p.row p.elements) (kinds_fit (table_of ps) (elements_of ps)) e in
    and_from (fits_kind p.row p.elements) (kinds_fit (table_of (ps ++ new ∷ [])) (elements_of (ps ++ new ∷ []))) both.0 (kinds_more ps new fit both.1)

still_any : (f : PropertyRow → Bool) (ps : List PropertyParts) (new : PropertyParts) → list_any f (table_of ps) ≡ true → list_any f (table_of (ps ++ new ∷ [])) ≡ true
still_any f [] new e = absurd cc
still_any f (p ∷ ps) new e = still_by f p ps new (f p.row) refl e (still_any f ps new)
  where
    still_by : (f : PropertyRow → Bool) (p : PropertyParts) (ps : List PropertyParts) (new : PropertyParts) (b : Bool) → f p.row ≡ b → (b || list_any f (table_of ps)) ≡ true → (list_any f (table_of ps) ≡ true → list_any f (table_of (ps ++ new ∷ [])) ≡ true)
        → (f p.row || list_any f (table_of (ps ++ new ∷ []))) ≡ true
    still_by f p ps new true at e later = or_left (f p.row) (list_any f (table_of (ps ++ new ∷ []))) at
    still_by f p ps new false at e later = or_right (f p.row) (list_any f (table_of (ps ++ new ∷ []))) (later e)

has_all_more : (ps : List PropertyParts) (new : PropertyParts) → HasAll (with_properties ps) (with_properties (ps ++ new ∷ []))
has_all_more ps new =
    record {
      named = λ name. still_any (λ (p : PropertyRow). bytes_eq p.name name) ps new;
      of_kind = λ name kind. still_any (λ (p : PropertyRow). bytes_eq p.name name && is_same_kind p.kind kind) ps new;
    }

abbrev with_property : RowData → PropertyForm → List ℕ → RowData × Option Need
with_property r p text = (record r { properties = r.properties ++ new_property p text ∷ [] }, None)

property_line_left : (r : RowData) (words : List (List ℕ)) (y : RowData × Option Need) → property_line r words ≡ Ok y → RowLeft r y.0 y.1
property_line_left r words y e =
    let t = not_bad (property_form words) (λ (p : PropertyForm). if is_some (property_named r.properties p.name) then Err refusal.NameInUse else property_added r p p.usage) y e in
    let u = unless (is_some (property_named r.properties t.value.name)) refusal.NameInUse (property_added r t.value t.value.usage) y t.then_is in
    let v = not_over t.value.usage (λ (text : List ℕ). judged false (ltb (length r.properties) 64) (with_property r t.value text)) y u.1 in
    let w = allowed false (ltb (length r.properties) 64) (with_property r t.value v.value) y v.then_is in
    let room : length r.properties < 64 = ltb-true (length r.properties) 64 w.1 in
    let new : PropertyParts = new_property t.value v.value in
    left_is r (with_property r t.value v.value) y w.2
    (record {
      fits = λ f. record {
        suites = f.suites;
        properties = omega (arith, room, length_push r.properties new);
        reactions = f.reactions;
        names_differ = names_more r.properties new u.0 f.names_differ;
        kinds_fit = kinds_more r.properties new (and_from (is_same_kind t.value.kind t.value.kind) (not (is_same_kind t.value.kind k.Message)) (same_kind t.value.kind) (form_fits words t.value t.is)) f.kinds_fit;
        actions_fit = reactions_still (with_properties r.properties) (with_properties (r.properties ++ new ∷ [])) (has_all_more r.properties new) r.reactions f.actions_fit;
      };
      name = refl;
      next = refl;
      no_next = tt;
    })

-- ---- elements
abbrev PropertySame : PropertyParts → PropertyParts → Type 0
PropertySame p q = (q.row ≡ p.row) × (q.elements.kind ≡ p.elements.kind)

kept_is : {A : Type 0} (f : Option ElementFault) (x y : A) → element_kept f x ≡ Ok y → x ≡ y
kept_is None x y e = same_ok x y e
kept_is (Some fault.ElementLimit) x y e = absurd cc
kept_is (Some fault.BadType) x y e = absurd cc
kept_is (Some fault.BadScript) x y e = absurd cc
kept_is (Some fault.BadValue) x y e = absurd cc
kept_is (Some fault.NameNotFound) x y e = absurd cc
kept_is (Some fault.BadIndex) x y e = absurd cc
kept_is (Some fault.NoMemory) x y e = absurd cc

abbrev with_element : PropertyParts → List ℕ × ValueData → PropertyParts × Option Need
with_element p x = (record p { elements = with_last p.elements x.0 x.1 }, None)

element_same : (p : PropertyParts) (words : List (List ℕ)) (y : PropertyParts × Option Need) → element_in p words ≡ Ok y → PropertySame p y.0 × (y.1 ≡ None)
element_same p words y e =
    let t = not_bad (element_form p.row.kind words) (λ (read : Limited (List ℕ × ValueData)). or_limit read (element_added p)) y e in
    let u = not_over t.value (element_added p) y t.then_is in
    let same : with_element p u.value ≡ y = kept_is (add_fault p.elements (message.kind_of u.value.1)) (with_element p u.value) y u.then_is in
    subst (λ (z : PropertyParts × Option Need). PropertySame p z.0 × (z.1 ≡ None)) same ((refl, refl), refl)

table_set : (ps : List PropertyParts) (i : ℕ) (p q : PropertyParts) → slice_get ps i ≡ Some p → PropertySame p q → table_of (set ps i q) ≡ table_of ps
table_set [] i p q at same = refl
table_set (x ∷ ps) zero p q at same =
    let is : x ≡ p = cc in
    ap (λ (row : PropertyRow). row ∷ table_of ps) (same.0 ∙ sym (ap (λ (z : PropertyParts). z.row) is))
table_set (x ∷ ps) (suc i) p q at same = ap (λ (rows : List PropertyRow). x.row ∷ rows) (table_set ps i p q at same)

kinds_set : (ps : List PropertyParts) (i : ℕ) (p q : PropertyParts) → slice_get ps i ≡ Some p → PropertySame p q → kinds_fit (table_of (set ps i q)) (elements_of (set ps i q)) ≡ kinds_fit (table_of ps) (elements_of ps)
kinds_set [] i p q at same = refl
kinds_set (x ∷ ps) zero p q at same =
    let is : x ≡ p = cc in
    ap (λ (z : Kind × Kind). (is_same_kind z.0 z.1 && not (is_same_kind z.1 k.Message)) && kinds_fit (table_of ps) (elements_of ps))
    (λ i. ((same.1 ∙ sym (ap (λ (z : PropertyParts). z.elements.kind) is)) i, (ap (λ (row : PropertyRow). row.kind) same.0 ∙ sym (ap (λ (z : PropertyParts). z.row.kind) is)) i))
kinds_set (x ∷ ps) (suc i) p q at same = ap (λ b. fits_kind x.row x.elements && b) (kinds_set ps i p q at same)

actions_set : (ps qs : List PropertyParts) (rs : List Reaction) → table_of qs ≡ table_of ps → ActionsFit ps rs → ActionsFit qs rs
actions_set ps qs rs e fit =
    reactions_still (with_properties ps) (with_properties qs)
    (record {
      named = λ name h. subst (λ (rows : List PropertyRow). is_named rows name ≡ true) (sym e) h;
      of_kind = λ name kind h. subst (λ (rows : List PropertyRow). list_any (λ (p : PropertyRow). bytes_eq p.name name && is_same_kind p.kind kind) rows ≡ true) (sym e) h;
    })
    rs fit

abbrev with_list : RowData → List PropertyParts × Option Need → RowData × Option Need
with_list r x = (record r { properties = x.0 }, x.1)

element_line_left : (r : RowData) (words : List (List ℕ)) (y : RowData × Option Need) → element_line r words ≡ Ok y → RowLeft r y.0 y.1
element_line_left r words y e =
    let t = went (on_last (λ (p : PropertyParts). element_in p words) r.properties) (λ (x : List PropertyParts × Option Need). Ok (with_list r x)) y e in
    let u = changed (λ (p : PropertyParts). element_in p words) r.properties t.value t.is in
    let same = element_same u.old words (u.new, t.value.1) u.change_is in
    let table : table_of t.value.0 ≡ table_of r.properties = ap table_of u.list_is ∙ table_set r.properties (length r.properties - 1) u.old u.new u.last same.0 in
    let kinds : kinds_fit (table_of t.value.0) (elements_of t.value.0) ≡ kinds_fit (table_of r.properties) (elements_of r.properties) =
    ap (λ (ps : List PropertyParts). kinds_fit (table_of ps) (elements_of ps)) u.list_is ∙ kinds_set r.properties (length r.properties - 1) u.old u.new u.last same.0 in
    let len : length t.value.0 ≡ length r.properties = ap length u.list_is ∙ length-set r.properties (length r.properties - 1) u.new in
    left_is r (with_list r t.value) y (same_ok (with_list r t.value) y t.then_is)
    (record {
      fits = λ f. record {
        suites = f.suites;
        properties = omega (arith, len, f.properties);
        reactions = f.reactions;
        names_differ = ap table_names_differ table ∙ f.names_differ;
        kinds_fit = kinds ∙ f.kinds_fit;
        actions_fit = actions_set r.properties t.value.0 r.reactions table f.actions_fit;
      };
      name = refl;
      next = refl;
      no_next = subst IsNoNext (sym same.1) tt;
    })

-- ---- reactions
abbrev with_reaction : RowData → Code → RowData × Option Need
with_reaction r what = (record r { reactions = r.reactions ++ new_reaction what ∷ [] }, None)

reaction_line_left : (r : RowData) (words : List (List ℕ)) (y : RowData × Option Need) → reaction_line r words ≡ Ok y → RowLeft r y.0 y.1
reaction_line_left r words y e =
    let t = not_bad (only_code words) (λ (what : Code). judged (has_reaction r.reactions what.0) (ltb (length r.reactions) 64) (with_reaction r what)) y e in
    let u = allowed (has_reaction r.reactions t.value.0) (ltb (length r.reactions) 64) (with_reaction r t.value) y t.then_is in
    let room : length r.reactions < 64 = ltb-true (length r.reactions) 64 u.1 in
    left_is r (with_reaction r t.value) y u.2
    (record {
      fits = λ f. record {
        suites = f.suites;
        properties = f.properties;
        reactions = omega (arith, room, length_push r.reactions (new_reaction t.value));
        names_differ = f.names_differ;
        kinds_fit = f.kinds_fit;
        actions_fit = list_all-append (fits_reaction (with_properties r.properties)) r.reactions (new_reaction t.value ∷ []) ∙ and_from (list_all (fits_reaction (with_properties r.properties)) r.reactions) true f.actions_fit refl;
      };
      name = refl;
      next = refl;
      no_next = tt;
    })

-- ---- actions
all_at : {X : Type 0} (p : X → Bool) (xs : List X) (i : ℕ) (x : X) → slice_get xs i ≡ Some x → list_all p xs ≡ true → p x ≡ true
all_at p [] i x at e = absurd cc
all_at p (z ∷ xs) zero x at e = let is : z ≡ x = cc in subst (λ q. p q ≡ true) is (and_parts (p z) (list_all p xs) e).0
all_at p (z ∷ xs) (suc i) x at e = all_at p xs i x at (and_parts (p z) (list_all p xs) e).1

all_set : {X : Type 0} (p : X → Bool) (xs : List X) (i : ℕ) (x : X) → list_all p xs ≡ true → p x ≡ true → list_all p (set xs i x) ≡ true
all_set p [] i x e h = refl
all_set p (z ∷ xs) zero x e h = and_from (p x) (list_all p xs) h (and_parts (p z) (list_all p xs) e).1
all_set p (z ∷ xs) (suc i) x e h =
    let both = and_parts (p z) (list_all p xs) e in
    and_from (p z) (list_all p (set xs i x)) both.0 (all_set p xs i x both.1 h)

abbrev acting : Action → Reaction → Reaction × Option Need
acting a reaction = (record reaction { actions = reaction.actions ++ a ∷ [] }, need_of_action a)

abbrev with_reactions : RowData → List Reaction × Option Need → RowData × Option Need
with_reactions r x = (record r { reactions = x.0 }, x.1)

action_line_left : (r : RowData) (keyword : Keyword) (words : List (List ℕ)) (y : RowData × Option Need) → action_line r keyword words ≡ Ok y → RowLeft r y.0 y.1
action_line_left r keyword words y e =
    let t = went (action_from r.properties keyword words) (λ (read : Limited Action). or_limit read (action_added r)) y e in
    let u = not_over t.value (action_added r) y t.then_is in
    let a : Action = u.value in
    let v = went (on_last (with_action a) r.reactions) (λ (x : List Reaction × Option Need). Ok (with_reactions r x)) y u.then_is in
    let w = changed (with_action a) r.reactions v.value v.is in
    let x = allowed false (not (eqb (length w.old.actions) 16)) (acting a w.old) (w.new, v.value.1) w.change_is in
    let new : record w.old { actions = w.old.actions ++ a ∷ [] } ≡ w.new = ap (λ (z : Reaction × Option Need). z.0) x.2 in
    let need : need_of_action a ≡ v.value.1 = ap (λ (z : Reaction × Option Need). z.1) x.2 in
    let len : length v.value.0 ≡ length r.reactions = ap length w.list_is ∙ length-set r.reactions (length r.reactions - 1) w.new in
    left_is r (with_reactions r v.value) y (same_ok (with_reactions r v.value) y v.then_is)
    (record {
      fits = λ f.
          let acts : fits_action (with_properties r.properties) a ≡ true = action_fits r.properties keyword words a (t.is ∙ ap (λ (z : Limited Action). Ok z) u.is) in
          let before : list_all (fits_action (with_properties r.properties)) w.old.actions ≡ true = all_at (fits_reaction (with_properties r.properties)) r.reactions (length r.reactions - 1) w.old w.last f.actions_fit in
          let more : list_all (fits_action (with_properties r.properties)) (w.old.actions ++ a ∷ []) ≡ true =
          list_all-append (fits_action (with_properties r.properties)) w.old.actions (a ∷ [])
          ∙ and_from (list_all (fits_action (with_properties r.properties)) w.old.actions) (fits_action (with_properties r.properties) a && true) before (and_from (fits_action (with_properties r.properties) a) true acts refl) in
          record {
            suites = f.suites;
            properties = f.properties;
            reactions = omega (arith, len, f.reactions);
            names_differ = f.names_differ;
            kinds_fit = f.kinds_fit;
            actions_fit = ap (list_all (fits_reaction (with_properties r.properties))) w.list_is
                ∙ all_set (fits_reaction (with_properties r.properties)) r.reactions (length r.reactions - 1) w.new f.actions_fit (subst (λ (z : Reaction). fits_reaction (with_properties r.properties) z ≡ true) new more);
          };
      name = refl;
      next = refl;
      no_next = subst IsNoNext need (no_next_action a);
    })

-- ---- any line
-- but that of a next handler
abbrev pub IsOther : Keyword → Type 0
IsOther key.Next = ⊥
IsOther keyword = Unit {0}

pub row_left : (r : RowData) (keyword : Keyword) (words : List (List ℕ)) (y : RowData × Option Need) → IsOther keyword → carry_in_row r keyword words ≡ Ok y → RowLeft r y.0 y.1
row_left r key.Next words y h e = absurd h
row_left r key.Suite words y h e = suite_line_left r words y e
row_left r key.Filter words y h e = filter_line_left r words y e
row_left r key.Property words y h e = property_line_left r words y e
row_left r key.Element words y h e = element_line_left r words y e
row_left r key.On words y h e = reaction_line_left r words y e
row_left r key.App words y h e = action_line_left r key.App words y e
row_left r key.Looper words y h e = action_line_left r key.Looper words y e
row_left r key.Hook words y h e = action_line_left r key.Hook words y e
row_left r key.Prefer words y h e = action_line_left r key.Prefer words y e
row_left r key.Common words y h e = action_line_left r key.Common words y e
row_left r key.Handler words y h e = action_line_left r key.Handler words y e
row_left r key.Reply words y h e = action_line_left r key.Reply words y e
row_left r key.Post words y h e = action_line_left r key.Post words y e
row_left r key.Ask words y h e = action_line_left r key.Ask words y e
row_left r key.Set words y h e = action_line_left r key.Set words y e
row_left r key.Add words y h e = action_line_left r key.Add words y e
row_left r key.Drop words y h e = action_line_left r key.Drop words y e
row_left r key.Quit words y h e = action_line_left r key.Quit words y e
